-- The ways out of the calls.
use mathlib.Core.Path.{◌≡◌, refl, sym, ap, ◌∙◌}
use mathlib.Core.Bool.{Bool, true, false}
use mathlib.Core.List.{List, [], ◌∷◌, append-nil}
use Prim.Native.Nat.{ℕ, zero, suc, ◌-◌, ◌≤◌, ◌<◌}
use native.Mathlib.Omega.{arith}
use lib.ListN.{length, take, replicate, drop_of_length-le}
use lib.Seq.{take_all, take_at}
use borrow.Author.Tests.{lt-ltb, le-ltb}
use Rattle.std.specs.Prelude.{Result as Answered, Ok, Err, ltb}
use Rattle.std.specs.Result.{result_unwrap_or}
use Rattle.answer.specs.declared.Refusal.{Refusal}
use Rattle.answer.specs.Answer.{done, room, not_record, strength, pick, first_of, on_done, number as number_of_refusal, number_of, value_of, result_of}
use Rattle.answer.specs.Laws.{err_only, not_done, right, not_right, number_result, number_first, first_listed}
use Rattle.octets.specs.Octets.{Octets, written, written_at}
use Rattle.octets.specs.Laws.{copy_fits}
use Rattle.mppe_keys.specs.declared.Strength.{Strength}
use Rattle.mppe_keys.specs.declared.Mode.{Mode}
use Rattle.mppe_keys.specs.declared.Role.{Role}
use Rattle.mppe_keys.specs.declared.Direction.{Direction}
use Rattle.mppe_keys.specs.Keys.{bits_of, key_length, by_mode, mode_if, placed}
use Rattle.mppe_keys.specs.Answers.{key_answer}
use Rattle.mppe_keys.proofs.Laws.{key_most, start_key_length, unwrapped}
use Rattle.ccp.specs.declared.Strengths.{Strengths}
use Rattle.ccp.specs.declared.Choice.{Choice}
use Rattle.ccp.specs.declared.Reply.{Reply as CcpReply}
use Rattle.ccp.specs.Option.{option_length, option_octets, only}
use Rattle.ccp.specs.Answers.{write_code, write_out, reply_answer}
use Rattle.mppe.specs.declared.Link.{Link}
use Rattle.mppe.specs.declared.NewLink.{NewLink}
use Rattle.mppe.specs.declared.Outcome.{Outcome}
use Rattle.mppe.specs.Link.{Result, longest_plain, farthest, new_link}
use Rattle.mppe_record.specs.Record.{strength_of, no_strength, record_length, record_octets, record_read}
use Rattle.mppe_record.proofs.Laws.{read_length}
use Rattle.mppe_pieces.specs.declared.Walk.{Walk}
use Rattle.mppe_pieces.specs.declared.Step.{Step}
use Rattle.mppe_pieces.specs.Walk.{Fed, begin_step, feed_result}
use Rattle.mppe_pieces.proofs.Laws.{calls}
use Rattle.mppe_walk.specs.Walk.{walk_length, walk_octets, rest_put, front_read, walk_read}
use Rattle.mppe_walk.specs.Laws.{read_length as read-walk-length, rest_written}
use Rattle.tape.specs.declared.Next.{Next as TapeNext}
use Rattle.tape.specs.declared.Replayed.{Replayed as TapeReplayed}
use Rattle.tape.specs.Tape.{most_groups}
use Rattle.tape.specs.Replay.{replayed}
use Rattle.marks.specs.declared.Mark.{Mark as TapeMark}
use Rattle.marks.specs.declared.Checked.{Checked as Checks}
use Rattle.marks.specs.Marks.{mark_in, mark_rows, no_mark, mark_read, write_answer, write_out as marks_write_out, checked}
use Rattle.host.specs.declared.Reply.{Reply}
use Rattle.host.specs.declared.Opened.{Opened}
use Rattle.host.specs.declared.Written.{Written}
use Rattle.host.specs.declared.Next.{Next}
use Rattle.host.specs.declared.Replayed.{Replayed}
use Rattle.host.specs.declared.Mark.{Mark}
use Rattle.host.specs.declared.MarksChecked.{MarksChecked}
use Rattle.host.specs.Host.{Given, Linked, given, role_of, direction_of, start_key_from, master_key_from, credential_rows, start_key_given}
use Rattle.host.specs.Host.{choice_octets, option_given, option_reply, choice_reply, no_reply, reply_of, reply_octets, new_link_given, unchanged, linked, opened_by, walked, closed_octets, begin_walked, written_of, next_in, step_with, replay_linked, replay_offset, replayed_by, marks_written, marks_out, marks_checked, checked_of, mark_given, mark_told}

-- a call's number and the lent buffer after it are those of a definition ..
abbrev pub Gave : ℕ → List ℕ → Given → Type 0
Gave number buffer g = (number ≡ g.code) × (buffer ≡ g.buffer)

-- .. and so those of an equal one
told : {g g' : Given} {r : ℕ} {out' : List ℕ} → g ≡ g' → Gave r out' g → Gave r out' g'
told e w = (w.0 ∙ ap (λ g. g.code) e, w.1 ∙ ap (λ g. g.buffer) e)

-- a result given over: it came with a refusal, it has no room, it has
pub given_refused : (code : ℕ) (result out : List ℕ) → (code ≡ done → ⊥) → Gave code out (given code result out)
unfolding given
given_refused zero result out h = absurd (h refl)
given_refused (suc n) result out h = (refl, refl)

pub given_room : (code : ℕ) (result out : List ℕ) → code ≡ done → length out < length result → Gave room out (given code result out)
unfolding given
given_room code result out e h = rw (e, lt-ltb (length out) (length result) h) (refl, refl)

pub given_done : {out' : List ℕ} (code : ℕ) (result out : List ℕ) → code ≡ done → length result ≤ length out
    → out' ≡ written (take (length out) result) out → Gave done out' (given code result out)
unfolding given
given_done code result out e h w = rw (e, le-ltb (length out) (length result) h) (refl, w ∙ rw (take_all (length out) result h))

-- a number that is no strength
pub none_first : {none : Bool} (rest : ℕ) → none ≡ true → pick none strength rest ≡ strength
none_first rest h = rw h

pub none_given : {code : ℕ} (result out : List ℕ) → code ≡ strength → Gave strength out (given code result out)
unfolding given
none_given result out e = rw e (refl, refl)

-- a master key in its places is whole
pub placed_whole : (m : List ℕ) → length m ≡ 16 → placed m ≡ m
unfolding placed
placed_whole m h = rw (h, append-nil)

-- the front of a start key in its places has the key's octets ..
pub key_fits : {n : ℕ} (s : Strength) (key : List ℕ) → length key ≡ 16 → n ≡ key_length s → n ≤ length key
key_fits s key h e = omega (arith, key_most s)

-- .. and is given over
key_given : (code n : ℕ) (key out : List ℕ) → ltb code 12 ≡ true → length key ≡ n
    → given (number_of (key_answer code key)) (take n (value_of (replicate 16 0) (key_answer code key))) out ≡ given code key out
unfolding key_answer given placed
key_given zero n key out listed h = rw (take_at key (replicate (16 - length key) 0) n h)
key_given (suc code) n key out listed h = rw (number_result (suc code) (placed key) listed)

pub start_given : {s : Strength} {role : Role} {direction : Direction} {key : Answered (List ℕ) Refusal} {octets out' : List ℕ} {n number r : ℕ} (bits : ℕ)
    (server send : Bool) (password response out : List ℕ) → no_strength bits ≡ false → s ≡ strength_of bits → role ≡ role_of server
    → direction ≡ direction_of send
    → key ≡ key_answer (first_of (credential_rows password response)) (start_key_from s role direction password response) → n ≡ key_length s
    → number ≡ number_of key → octets ≡ result_unwrap_or key (replicate 16 0) → Gave r out' (given number (take n octets) out)
    → Gave r out' (start_key_given bits server send password response out)
unfolding start_key_given start_key_from
start_given {s} {role} {direction} {key} {octets} {n = n} {number = number} bits server send password response out h es er ed ek en em eo w =
    let k : List ℕ = start_key_from s role direction password response in
    let size : length k ≡ n = start_key_length s role direction (master_key_from password response) ∙ sym en in
    let code : ℕ = first_of (credential_rows password response) in
    let whole = key_given code n k out (first_listed (credential_rows password response) refl) size in
    let same : given number (take n octets) out ≡ given code k out = rw (em, eo ∙ unwrapped (replicate 16 0) key, ek) whole in
    told (same ∙ rw (h, es, er, ed)) w

-- a new link, given over
pub new_given : {s : Strength} {mode : Mode} {new : NewLink} {octets out' : List ℕ} {r : ℕ} (bits : ℕ) (stateful : Bool) (start out : List ℕ) → no_strength bits ≡ false
    → s ≡ strength_of bits → mode ≡ mode_if stateful → new ≡ new_link s mode start → octets ≡ record_octets new.link → Gave r out' (given new.answer octets out)
    → Gave r out' (new_link_given bits stateful start out)
unfolding new_link_given new_link
new_given bits stateful start out h es em en eo w = told (rw (eo, en, es, em, h)) w

-- a reply's option written
pub choice_written : {number : ℕ} {answer : Answered (Unit {0}) Refusal} {strengths : Strengths} {out' : List ℕ} (c : Choice) (out : List ℕ) → strengths ≡ only c.strength
    → number ≡ number_of answer → (answer ≡ result_of (write_code out) tt) × (out' ≡ write_out c.mode strengths out)
    → Gave number out' (given done (choice_octets c) out)
unfolding given choice_octets option_octets write_out
choice_written c out e en w = (en ∙ ap number_of w.0 ∙ number_first ((room, ltb (length out) option_length) ∷ []) tt refl, w.1 ∙ rw e)

pub choice_refused : {r : Reply} {n number : ℕ} (accept : Bool) (c : Choice) → number ≡ n → (number ≡ done → ⊥)
    → r ≡ no_reply number → r ≡ choice_reply accept c n
unfolding choice_reply
choice_refused {number = zero} accept c e h er = absurd (h refl)
choice_refused {number = suc n} accept c e h er = rw (← e) er

pub choice_replied : {n number b : ℕ} {t : Bool} (accept : Bool) (c : Choice) → number ≡ n → number ≡ done → b ≡ bits_of c.strength
    → t ≡ by_mode c.mode false true → ◌≡◌ {A = Reply} (record { answer = number; accept = accept; bits = b; stateful = t }) (choice_reply accept c n)
unfolding choice_reply
choice_replied accept c e h eb et = rw (← e, h, eb, et)

pub replied : {rep rep' : Answered CcpReply Refusal} {r : Reply} {out' : List ℕ} (option : List ℕ) (allowed : Strengths) (stateful : Bool) (out : List ℕ)
    → rep ≡ reply_answer option allowed stateful → rep ≡ rep'
    → (r ≡ reply_of rep' (given (number_of rep') (reply_octets rep') out).code)
    × (out' ≡ (given (number_of rep') (reply_octets rep') out).buffer)
    → (r ≡ option_reply option allowed stateful out) × (out' ≡ (option_given option allowed stateful out).buffer)
unfolding option_reply option_given
replied option allowed stateful out e e' w = rw (sym e ∙ e') w

pub reply_refused : {r : Reply} {number : ℕ} (refusal : Refusal) (out : List ℕ) → number ≡ number_of_refusal refusal → r ≡ no_reply number
    → (r ≡ no_reply (given (number_of_refusal refusal) [] out).code) × (out ≡ (given (number_of_refusal refusal) [] out).buffer)
unfolding given
reply_refused {number = number} refusal out e er = rw (← e) (by number er)
  where
    by : {r : Reply} (n : ℕ) → r ≡ no_reply n → (r ≡ no_reply (given n [] out).code) × (out ≡ (given n [] out).buffer)
    by zero e = rw (le-ltb (length out) 0 (omega arith)) (e, refl)
    by (suc n) e = (e, refl)

-- octets that hold a record are 295
pub held_length : {read : Answered Link Refusal} {l : Link} (octets : List ℕ) → read ≡ record_read octets → read ≡ Ok l → length octets ≡ record_length
held_length octets e h = read_length octets (sym e ∙ h)

-- a call on the record in lent octets: they hold none, they hold one
pub linked_none : {read : Answered Link Refusal} {refusal : Refusal} {code : ℕ} (call : Link → Result) (octets out : List ℕ) → read ≡ record_read octets
    → read ≡ Err refusal → code ≡ number_of_refusal refusal → unchanged code octets out ≡ linked call octets out
unfolding linked
linked_none call octets out e h en = rw (← e, h, en)

pub linked_made : {read : Answered Link Refusal} {l : Link} {made : Outcome} {octets' out' : List ℕ} (call : Link → Result) (octets out : List ℕ)
    → read ≡ record_read octets → read ≡ Ok l → (made ≡ (call l).outcome) × (out' ≡ (call l).buffer)
    → octets' ≡ record_octets made.link
    → ◌≡◌ {A = Linked} (record { code = made.answer; changed = made.changes; octets = octets'; buffer = out' }) (linked call octets out)
unfolding linked
linked_made call octets out e h w eo = rw (← e, h, eo, w.0, w.1)

-- octets that hold a walk are 577
pub walk_length_lem : {read : Answered Walk Refusal} {held : Walk} (octets : List ℕ) → read ≡ walk_read octets → read ≡ Ok held → length octets ≡ walk_length
walk_length_lem octets e h = read-walk-length octets (sym e ∙ h)

-- a call on the walk in lent octets: they hold none, they hold one
pub walked_none : {read : Answered Walk Refusal} {refusal : Refusal} {code : ℕ} (call : Walk → Fed) (octets out : List ℕ) → read ≡ walk_read octets
    → read ≡ Err refusal → code ≡ number_of_refusal refusal → unchanged code octets out ≡ walked call octets out
unfolding walked
walked_none call octets out e h en = rw (← e, h, en)

pub walked_made : {read : Answered Walk Refusal} {held : Walk} {made : Step} {octets' out' : List ℕ} (call : Walk → Fed) (octets out : List ℕ)
    → read ≡ walk_read octets → read ≡ Ok held → (made ≡ (call held).step) × (out' ≡ (call held).buffer)
    → octets' ≡ walk_octets made.walk
    → ◌≡◌ {A = Linked} (record { code = made.answer; changed = made.changes; octets = octets'; buffer = out' }) (walked call octets out)
unfolding walked
walked_made call octets out e h w eo = rw (← e, h, eo, w.0, w.1)

-- a feed hands back the record of its walk, so that what stands behind it is all that is written
pub fed_made : {read : Answered Walk Refusal} {held : Walk} {made : Step} {octets' out' : List ℕ} (octets piece out : List ℕ) → Octets octets
    → read ≡ walk_read octets → read ≡ Ok held
    → (made ≡ (feed_result longest_plain farthest held piece out).step) × (out' ≡ (feed_result longest_plain farthest held piece out).buffer)
    → octets' ≡ rest_put made.walk octets
    → ◌≡◌ {A = Linked} (record { code = made.answer; changed = made.changes; octets = octets'; buffer = out' })
    (walked (λ w. feed_result longest_plain farthest w piece out) octets out)
fed_made {held = held} {made} octets piece out all e h w eo =
    let kept = ((calls longest_plain farthest).fed held piece out).0 in
    let same : made.walk.link ≡ held.link = ap (λ (s : Step). s.walk.link) w.0 ∙ kept in
    walked_made (λ w. feed_result longest_plain farthest w piece out) octets out e h w (eo ∙ rest_written octets made.walk all (sym e ∙ h) same)

-- a walk closed without its record
pub walk_closed : {out' : List ℕ} (out : List ℕ) → length out ≡ walk_length → out' ≡ written_at 295 (take (length out - 295) (replicate 282 0)) out
    → out' ≡ closed_octets out
walk_closed out h e =
    e ∙ copy_fits 295 (replicate 282 0) out (omega arith) ∙ rw (drop_of_length-le out {i = 577} (omega arith), append-nil)

-- a begin: lent octets that are not 577, that begin with no record, and that begin with one
pub begin_short : (octets four : List ℕ) (total lent : ℕ) → (length octets ≡ walk_length → ⊥)
    → unchanged not_record octets [] ≡ begin_walked octets four total lent
unfolding begin_walked
begin_short octets four total lent h = rw (not_right walk_length octets h)

pub begin_none : {read : Answered Link Refusal} {refusal : Refusal} {code : ℕ} {octets' : List ℕ} (octets four : List ℕ) (total lent : ℕ)
    → length octets ≡ walk_length → read ≡ front_read octets → read ≡ Err refusal → code ≡ number_of_refusal refusal → octets' ≡ closed_octets octets
    → unchanged code octets' [] ≡ begin_walked octets four total lent
unfolding begin_walked
begin_none octets four total lent hl e h en eo = rw (right walk_length octets hl, ← e, h, en, eo)

pub begin_made : {read : Answered Link Refusal} {l : Link} {made : Step} {octets' : List ℕ} (octets four : List ℕ) (total lent : ℕ)
    → length octets ≡ walk_length → read ≡ front_read octets → read ≡ Ok l → made ≡ begin_step longest_plain farthest l four total lent
    → octets' ≡ walk_octets made.walk
    → ◌≡◌ {A = Linked} (record { code = made.answer; changed = made.changes; octets = octets'; buffer = [] }) (begin_walked octets four total lent)
unfolding begin_walked
begin_made octets four total lent hl e h em eo = rw (right walk_length octets hl, ← e, h, eo, em)

-- what the calls tell of it
pub seal_told : {l l' : Linked} → l ≡ l' → (l.code ≡ l'.code) × (l.octets ≡ l'.octets) × (l.buffer ≡ l'.buffer)
seal_told e = (ap (λ l. l.code) e, ap (λ l. l.octets) e, ap (λ l. l.buffer) e)

pub open_told : {l l' : Linked} → l ≡ l' → (◌≡◌ {A = Opened} (record { answer = l.code; changes = l.changed }) (opened_by l'))
    × (l.octets ≡ l'.octets) × (l.buffer ≡ l'.buffer)
unfolding opened_by
open_told e = (ap opened_by e, ap (λ l. l.octets) e, ap (λ l. l.buffer) e)

pub reset_told : {l l' : Linked} → l ≡ l' → (l.code ≡ l'.code) × (l.octets ≡ l'.octets)
reset_told e = (ap (λ l. l.code) e, ap (λ l. l.octets) e)

pub walk_told : {l l' : Linked} → l ≡ l' → (◌≡◌ {A = Opened} (record { answer = l.code; changes = l.changed }) (opened_by l'))
    × (l.octets ≡ l'.octets)
unfolding opened_by
walk_told e = (ap opened_by e, ap (λ l. l.octets) e)

-- what a tape's calls tell
pub read_told : {n n' : TapeNext} {number : ℕ} → n ≡ n' → number ≡ number_of n.answer
    → ◌≡◌ {A = Next} (record { answer = number; start = n.start; offset = n.offset }) (next_in n')
unfolding next_in
read_told e en = rw en (ap next_in e)

abbrev Told : Linked → (offset : ℕ) → (octets tape : List ℕ) (o : ℕ) (out : List ℕ) → Type 0
Told l offset octets tape o out =
    let l' : Linked = replay_linked octets tape o out in
    (◌≡◌ {A = Replayed} (record { answer = l.code; changes = l.changed; offset = offset }) (replayed_by l' (replay_offset octets tape o out)))
    × (l.octets ≡ l'.octets) × (l.buffer ≡ l'.buffer)

replay_told : {l : Linked} {offset : ℕ} (octets tape : List ℕ) (o : ℕ) (out : List ℕ) → l ≡ replay_linked octets tape o out
    → offset ≡ replay_offset octets tape o out → Told l offset octets tape o out
unfolding replayed_by
replay_told octets tape o out e eo = (rw (e, eo), ap (λ l. l.octets) e, ap (λ l. l.buffer) e)

-- a replay step: the lent octets hold no record, they hold one
pub replay_none : {read : Answered Link Refusal} {refusal : Refusal} {code : ℕ} (octets tape : List ℕ) (o : ℕ) (out : List ℕ) → read ≡ record_read octets
    → read ≡ Err refusal → code ≡ number_of_refusal refusal → Told (unchanged code octets out) 0 octets tape o out
unfolding replay_linked replay_offset
replay_none octets tape o out e h en =
    let call : (Link → Result) = λ l. (step_with l tape o out).result in
    replay_told octets tape o out (linked_none call octets out e h en) (rw (← e, h))

pub replay_made : {read : Answered Link Refusal} {l : Link} {made : TapeReplayed} {octets' out' : List ℕ} (octets tape : List ℕ) (o : ℕ) (out : List ℕ)
    → read ≡ record_read octets → read ≡ Ok l
    → (made ≡ replayed (step_with l tape o out)) × (out' ≡ (step_with l tape o out).result.buffer)
    → octets' ≡ record_octets made.outcome.link
    → Told (record { code = made.outcome.answer; changed = made.outcome.changes; octets = octets'; buffer = out' }) made.offset octets tape o out
unfolding replay_linked replay_offset
replay_made octets tape o out e h w eo =
    let call : (Link → Result) = λ l. (step_with l tape o out).result in
    let is = w.0 in
    replay_told octets tape o out (linked_made call octets out e h (ap (λ (r : TapeReplayed). r.outcome) is, w.1) eo)
    (ap (λ (r : TapeReplayed). r.offset) is ∙ rw (← e, h))

-- marks with the start record in lent octets: no record there, or the call on it
module _ {read : Answered Link Refusal} (octets tape : List ℕ) (er : read ≡ record_read octets) where
  pub marks_unwritten : {refusal : Refusal} {code : ℕ} (out : List ℕ) → read ≡ Err refusal → code ≡ number_of_refusal refusal
      → (◌≡◌ {A = Written} (record { answer = code; length = 0 }) (marks_written octets tape out)) × (out ≡ marks_out octets tape out)
  unfolding marks_written marks_out
  marks_unwritten out h en = rw (← er, h, en) (refl, refl)

  pub marks_written_lem : {l : Link} {w : Answered ℕ Refusal} {after : List ℕ} (out : List ℕ) → read ≡ Ok l
      → (w ≡ write_answer most_groups longest_plain farthest l tape out) × (after ≡ marks_write_out most_groups longest_plain farthest l tape out)
      → (written_of w ≡ marks_written octets tape out) × (after ≡ marks_out octets tape out)
  unfolding marks_written marks_out written_of
  marks_written_lem out h (ew, ea) = rw (← er, h, ew, ea) (refl, refl)

  pub marks_unchecked : {refusal : Refusal} {code : ℕ} (marks : List ℕ) → read ≡ Err refusal → code ≡ number_of_refusal refusal
      → ◌≡◌ {A = MarksChecked} (record { answer = code; yes = false; agreeing = 0 }) (marks_checked octets tape marks)
  unfolding marks_checked
  marks_unchecked marks h en = rw (← er, h, en)

  pub marks_checked_lem : {l : Link} {c : Answered Checks Refusal} (marks : List ℕ) → read ≡ Ok l → c ≡ checked most_groups longest_plain farthest l tape marks
      → checked_of c ≡ marks_checked octets tape marks
  unfolding marks_checked
  marks_checked_lem marks h ec = rw (← er, h, ec)

-- a mark read: octets that hold none, and one with no room for its record or with room
pub mark_refused : {refusal : Refusal} {code : ℕ} (octets out : List ℕ) → Err refusal ≡ mark_read octets → code ≡ number_of_refusal refusal
    → (◌≡◌ {A = Mark} (record { answer = code; opened = 0; offset = 0 }) (mark_told octets out)) × (out ≡ (mark_given octets out).buffer)
unfolding mark_told mark_given given mark_read
mark_refused {refusal} {code} octets out er en =
    let number : code ≡ first_of (mark_rows octets) = en ∙ ap number_of er ∙ number_first (mark_rows octets) (mark_in octets) refl in
    rw (← er, ← en) (by code (λ z. err_only (first_of (mark_rows octets)) (mark_in octets) (sym er) (sym number ∙ z)))
  where
    by : (code : ℕ) → (code ≡ done → ⊥)
        → (◌≡◌ {A = Mark} (record { answer = code; opened = 0; offset = 0 })
        (let g : Given = given code (record_octets no_mark.link) out in record { answer = g.code; opened = on_done g.code 0 0; offset = on_done g.code 0 0 }))
        × (out ≡ (given code (record_octets no_mark.link) out).buffer)
    by zero some = absurd (some refl)
    by (suc n) some = (refl, refl)

module _ {m : TapeMark} {laid after : List ℕ} {code : ℕ} (octets out : List ℕ) (er : Ok m ≡ mark_read octets) (el : laid ≡ record_octets m.link)
    (eg : (code ≡ (given done laid out).code) × (after ≡ (given done laid out).buffer)) where
  gave : (code ≡ (mark_given octets out).code) × (after ≡ (mark_given octets out).buffer)
  unfolding mark_given
  gave = rw (← er, ← el) eg

  pub mark_roomless : (code ≡ done → ⊥) → (◌≡◌ {A = Mark} (record { answer = code; opened = 0; offset = 0 }) (mark_told octets out)) × (after ≡ (mark_given octets out).buffer)
  unfolding mark_told
  mark_roomless h =
      let refused : (mark_given octets out).code ≡ done → ⊥ = λ z. h (gave.0 ∙ z) in
      (rw (gave.0, not_done (mark_given octets out).code (value_of no_mark (mark_read octets)).opened 0 refused, not_done (mark_given octets out).code (value_of no_mark (mark_read octets)).offset 0 refused), gave.1)

  pub mark_told_lem : code ≡ done
      → (◌≡◌ {A = Mark} (record { answer = code; opened = m.opened; offset = m.offset }) (mark_told octets out)) × (after ≡ (mark_given octets out).buffer)
  unfolding mark_told
  mark_told_lem z =
      let ok : (mark_given octets out).code ≡ done = sym gave.0 ∙ z in
      (rw (ok, z, ← er), gave.1)
