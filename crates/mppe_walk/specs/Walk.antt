-- A walk (02, M-104) as octets, so that it can be lent from C: its link record in front.
use Rattle.std.specs.Prelude.{Bool, List, [], ◌∷◌, ◌++◌, ℕ, eqb, take, drop, get_or, Result, is_err}
use Rattle.answer.specs.declared.Refusal.{Refusal}
use Rattle.answer.specs.Answer.{not_record, pick, first_of, result_of, value_of, wrong}
use Rattle.octets.specs.Octets.{big_endian, pair_at}
use Rattle.rc4.specs.declared.Rc4.{Rc4}
use Rattle.rc4.specs.Cipher.{box}
use Rattle.mppe.specs.declared.Link.{Link}
use Rattle.mppe_record.specs.Record.{yes_number, no_choice, record_length, record_octets, no_record, record_read}
use Rattle.mppe_pieces.specs.declared.Walk.{Walk}
use Rattle.mppe_pieces.specs.Walk.{over}

-- behind the record: whether the walk is live, the packet's header, and its session key in 16 places ..
unfoldable pub key_octets : Walk → List ℕ
key_octets w = yes_number w.live ∷ big_endian 2 w.header ++ w.session

-- .. RC4's indices and cells ..
unfoldable pub state_octets : Rc4 → List ℕ
state_octets s = s.i ∷ s.j ∷ s.cells

-- .. the total, the octets fed, and the first protocol octet; "numbers highest octet first" (02, M-111)
unfoldable pub fed_octets : Walk → List ℕ
fed_octets w = big_endian 2 w.total ++ big_endian 2 w.fed ++ (w.first ∷ [])

abbrev pub walk_length : ℕ
walk_length = 577

unfoldable pub rest_octets : Walk → List ℕ
rest_octets w = key_octets w ++ state_octets w.state ++ fed_octets w

unfoldable pub walk_octets : Walk → List ℕ
walk_octets w = record_octets w.link ++ rest_octets w

-- 577 octets with what stands behind the record that of a walk; others as they were
unfoldable pub rest_put : Walk → List ℕ → List ℕ
rest_put w octets = pick (wrong walk_length octets) octets (take record_length octets ++ rest_octets w)

-- what is read of the record in front
abbrev pub front_read : List ℕ → Result Link Refusal
front_read octets = record_read (take record_length octets)

-- the walk in 577 octets
unfoldable pub walk_in : List ℕ → Walk
walk_in octets =
    record {
      live = eqb (get_or octets 295 0) 1;
      link = value_of no_record (front_read octets);
      header = pair_at 296 octets;
      session = take 16 (drop 298 octets);
      state = box (take 256 (drop 316 octets)) (get_or octets 314 0) (get_or octets 315 0);
      total = pair_at 572 octets;
      fed = pair_at 574 octets;
      first = get_or octets 576 0;
    }

-- octets that hold none: there are not 577 of them, they do not begin with a record, or the walk is neither live nor not
abbrev pub walk_rows : List ℕ → List (ℕ × Bool)
walk_rows octets =
    (not_record, wrong walk_length octets)
    ∷ (not_record, is_err (front_read octets))
    ∷ (not_record, no_choice (get_or octets 295 0))
    ∷ []

-- what a refused answer has for a walk, `value_of no_walk (walk_read octets)`: one that is over, with the record of octets that hold none
abbrev pub no_walk : Walk
no_walk = over no_record

unfoldable pub walk_read : List ℕ → Result Walk Refusal
walk_read octets = result_of (first_of (walk_rows octets)) (walk_in octets)
