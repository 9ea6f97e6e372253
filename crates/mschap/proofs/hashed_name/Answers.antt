use Rattle.std.proofs.Common.{◌≡◌, ℕ, ◌+◌, ◌<◌, length, get_or, arith, rules}
use Rattle.mschap.proofs.InnerLaws.{none_before, user_found, user_part, whole_name}
use Rattle.mschap.proofs.hashed_name.Goals as goal

pub returns-in-Some : goal.returns-in-Some
returns-in-Some c =
    let name = c.args.name.now in
    let i = c.in-Some.i in
    let size : i < length name = search rules in
    let found : get_or name i 0 ≡ 0x5C = search rules in
    let before : (k : ℕ) → k < i → get_or name k 0 ≡ 0x5C → ⊥ = search rules in
    user_part name (i + 1) (user_found name i (none_before name i before) found size)

pub returns-in-None : goal.returns-in-None
returns-in-None c =
    let name = c.args.name.now in
    let before : (k : ℕ) → k < length name → get_or name k 0 ≡ 0x5C → ⊥ = search rules in
    whole_name name (length name) (none_before name (length name) before) (omega arith)
