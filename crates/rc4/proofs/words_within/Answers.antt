-- The first two octets in a buffer of their own; then those and the rest, put together by `finished_parts`.
use mathlib.Core.Path.{◌≡◌, refl, sym}
use mathlib.Core.List.{[], ◌∷◌}
use native.Mathlib.Omega.{arith}
use lib.ListN.{get_or}
use lib.Seq.{length-take-le}
use Rattle.octets.specs.Octets.{from_big_endian}
use Rattle.rc4.specs.Inner.{wrapped}
use Rattle.rc4.proofs.Texts.{ready_two, ready_rest, number_off, number_within, lent_two, finished_parts}
use Rattle.rc4.proofs.words_within.Goals as goal

pub slice_bounds-run_ones-end : goal.slice_bounds-run_ones-end
slice_bounds-run_ones-end c =
    sym (length-take-le 2 c.args.text.now c.requires.1)

pub run_ones-next-requires : goal.run_ones-next-requires
run_ones-next-requires c =
    ready_two c.requires.0 c.requires.1

pub returns-then-number-lowest : goal.returns-then-number-lowest
returns-then-number-lowest c =
    let a = c.args in
    let two = c.run_ones-next.new.out in
    let number : c.from_be_bytes-number.result ≡ from_big_endian (get_or two 0 0 ∷ get_or two 1 0 ∷ []) = omega (arith, c.from_be_bytes-number.ensures) in (
      number_off (wrapped a.cells.now a.i a.j) a.text.now _ _ c.run_ones-next.ensures.wrote number c.requires.1 c.then-number-lowest.either,
      refl,
      refl,
    )

pub overflow_add-i : goal.overflow_add-i
overflow_add-i c =
    omega (arith, c.requires.0.i_near)

pub run_words-last-requires : goal.run_words-last-requires
run_words-last-requires c =
    let a = c.args in
    let first = lent_two a.text.now a.out.now c.run_ones-next.ensures c.copy_from_slice.ensures.after c.requires.1 c.requires.0.room in
    ready_rest 2 c.requires.0 first.0 first.1 c.requires.1

pub returns : goal.returns
returns c =
    let a = c.args in
    let two = c.run_ones-next.new.out in
    let number : c.from_be_bytes-number.result ≡ from_big_endian (get_or two 0 0 ∷ get_or two 1 0 ∷ []) = omega (arith, c.from_be_bytes-number.ensures) in
    let first = lent_two a.text.now a.out.now c.run_ones-next.ensures c.copy_from_slice.ensures.after c.requires.1 c.requires.0.room in (
      number_within (wrapped a.cells.now a.i a.j) a.text.now _ _ c.run_ones-next.ensures.wrote number c.requires.1 c.if-number-lowest.false c.if-highest-number.false,
      finished_parts 2 first.0 c.run_words-last.ensures c.requires.1,
    )
