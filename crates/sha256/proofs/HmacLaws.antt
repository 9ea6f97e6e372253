-- What the proofs of HMAC cite: the key's block, a block xored octet by octet, a digest that goes on behind a block.
use Rattle.std.proofs.Common.{◌≡◌, sym, ap, ◌∙◌, List, ℕ, suc, ◌+◌, ◌*◌, ◌≤◌, ◌<◌, ◌++◌, append_assoc, length, take, drop, get_or, set, replicate, add-one, lt-ltb, le-ltb, Ok, arith}
use mathlib.Core.List.{map-append, append-nil}
use lib.Bits.{bit_xor}
use lib.ListN.{length-map}
use lib.Seq.{take_all, take-suc, drop-cons, set_at, length-take-le, take-length, drop-length, get_or_at}
use Rattle.std.specs.Prelude.{Result}
use Rattle.answer.specs.declared.Refusal.{Refusal}
use Rattle.answer.specs.Laws.{ok_only}
use Rattle.octets.specs.Octets.{written, longest_text}
use Rattle.octets.specs.Laws.{drop_zeros}
use Rattle.octets.specs.declared.Order.TheVariants.{HighestFirst}
use Rattle.blocks.specs.Inner.{closed_answer}
use Rattle.blocks.specs.Laws.{hashed_behind_one}
use Rattle.sha256.specs.Sha256.{compress, initial, octets_in, sha256, sha256_answer}
use Rattle.sha256.specs.Inner.{block_answer, behind_answer}
use Rattle.sha256.specs.Hmac.{key_block, xored, ipad, opad, hmac, hmac_answer}
use Rattle.sha256.specs.Laws.{sha256_length}
use Rattle.sha256.specs.declared.State.{State}

-- a key copied into zeros, or its digest
pub key_short : {b : List ℕ} (key : List ℕ) → b ≡ written (take 64 key) (replicate 64 0) → length key ≤ 64 → Ok b ≡ block_answer key
unfolding block_answer key_block
key_short key e h =
    let short : length key ≤ longest_text = omega arith in
    rw (e, le-ltb longest_text (length key) short, take_all 64 key h, drop_zeros, le-ltb 64 (length key) h)

pub key_long : {b d : List ℕ} (key : List ℕ) → Ok d ≡ sha256_answer key → b ≡ written (take 64 d) (replicate 64 0) → 64 < length key → Ok b ≡ block_answer key
unfolding block_answer key_block sha256_answer
key_long key ed e h =
    let (none, same) = ok_only _ _ (sym ed) in
    rw
    (none, e, ← same, take_all 64 (sha256 key) (omega (arith, sha256_length key)), drop_zeros, lt-ltb 64 (length key) h)

-- one octet more is xored
pub xored_more : {out : List ℕ} (pad : ℕ) (block : List ℕ) (i : ℕ) → out ≡ xored pad (take i block) ++ drop i block → i < length block
    → set out i (bit_xor (get_or out i 0) pad) ≡ xored pad (take (i + 1) block) ++ drop (i + 1) block
xored_more pad block i e h =
    let l : length (xored pad (take i block)) ≡ i = length-map (take i block) (λ x. bit_xor x pad) ∙ length-take-le i block (omega arith) in
    rw
    (e, drop-cons block i 0 h, get_or_at (xored pad (take i block)) (get_or block i 0) (drop (suc i) block) 0 i l, set_at (xored pad (take i block)) (get_or block i 0) (drop (suc i) block) (bit_xor (get_or block i 0) pad) i l, add-one, take-suc block i 0 h, map-append, append_assoc)

-- all are
pub xored_all : {out : List ℕ} (pad : ℕ) (block : List ℕ) (i : ℕ) → out ≡ xored pad (take i block) ++ drop i block → i ≡ length block
    → out ≡ xored pad block
xored_all pad block i e h = e ∙ rw (h, take-length, drop-length, append-nil)

-- a digest that goes on behind a block
pub behind : {i h r : State} {o : List ℕ} (block text : List ℕ) → length block ≡ 64 → i ≡ initial → h ≡ compress i block
    → Ok r ≡ closed_answer compress HighestFirst h (64 * 1) text → o ≡ octets_in r → Ok o ≡ behind_answer block text
unfolding behind_answer sha256 closed_answer
behind block text l ei eh er eo =
    let (none, same) = ok_only _ _ (sym er) in
    rw (none, eo, ← same, eh, ei, hashed_behind_one compress HighestFirst initial block text l)

-- the code of a key and a text
pub coded : {b p q inner : List ℕ} {r : Result (List ℕ) Refusal} (key text : List ℕ) → Ok b ≡ block_answer key → p ≡ xored ipad b
    → Ok inner ≡ behind_answer p text → q ≡ xored opad b → r ≡ behind_answer q inner → r ≡ hmac_answer key text
unfolding hmac_answer hmac block_answer behind_answer
coded {b} {p} {q} {inner} key text eb ep ei eq er =
    let (none, block) = ok_only _ _ (sym eb) in
    let (none', digest) = ok_only _ _ (sym ei) in
    let short : length inner ≤ longest_text = omega (arith, ap length digest, sha256_length (p ++ text)) in
    rw (er, le-ltb longest_text (length inner) short, none', none, eq, ← digest, ep, ← block)
