-- What the calls from C give: each is the call under it, said over numbers and octets (01, "Which form goes where").
use Rattle.std.specs.Prelude.{Bool, true, false, List, [], ◌∷◌, ◌++◌, ℕ, ◌-◌, ltb, length, take, replicate, Result as Answered, Ok, Err}
use Rattle.answer.specs.Answer.{room, size, not_record, strength, pick, first_of, on_done, wrong, number as number_of_refusal, number_of, value_of}
use Rattle.answer.specs.declared.Refusal.{Refusal}
use Rattle.octets.specs.Octets.{written}
use Rattle.mschap.specs.Lengths.{response_length, string_length}
use Rattle.mschap.specs.Mschap.{password_hash, hash_hash}
use Rattle.mschap.specs.Answers.{password_rows, nt_response_answer, authenticator_string_answer}
use Rattle.mppe_keys.specs.declared.Strength.{Strength}
use Rattle.mppe_keys.specs.declared.Role.{Role}
use Rattle.mppe_keys.specs.declared.Role.TheVariants.{Client, Server}
use Rattle.mppe_keys.specs.declared.Direction.{Direction}
use Rattle.mppe_keys.specs.declared.Direction.TheVariants.{Send, Receive}
use Rattle.mppe_keys.specs.Keys.{bits_of, key_length, by_mode, mode_if, master_key, start_key}
use Rattle.ccp.specs.declared.Strengths.{Strengths}
use Rattle.ccp.specs.declared.Choice.{Choice}
use Rattle.ccp.specs.declared.Reply.{Reply as CcpReply}
use Rattle.ccp.specs.declared.Reply.TheVariants.{Accept, CounterOffer}
use Rattle.ccp.specs.Option.{option_octets, only}
use Rattle.ccp.specs.Answers.{reply_answer}
use Rattle.mppe.specs.declared.Link.{Link}
use Rattle.mppe.specs.Link.{Result, longest_plain, farthest, new_link, seal_result, open_result, reset_outcome}
use Rattle.mppe_record.specs.Record.{strength_of, no_strength, record_length, record_octets, record_read}
use Rattle.mppe_pieces.specs.declared.Walk.{Walk}
use Rattle.mppe_pieces.specs.declared.Step.{Step}
use Rattle.mppe_pieces.specs.Walk.{Fed, begin_step, feed_result, end_step}
use Rattle.mppe_walk.specs.Walk.{walk_length, walk_octets, front_read, walk_read}
use Rattle.tape.specs.declared.Next.{Next as TapeNext}
use Rattle.tape.specs.Tape.{most_groups}
use Rattle.tape.specs.Replay.{Step as TapeStep, held, replay_step}
use Rattle.marks.specs.declared.Mark.{Mark as TapeMark}
use Rattle.marks.specs.declared.Checked.{Checked as Checks}
use Rattle.marks.specs.Marks.{no_mark, mark_read, write_answer, write_out, unchecked, checked}
use Rattle.sstp.specs.Binding.{base_key_answer, binding_key_answer}
use Rattle.host.specs.declared.Check.{Check}
use Rattle.host.specs.declared.Reply.{Reply}
use Rattle.host.specs.declared.Opened.{Opened}
use Rattle.host.specs.declared.Written.{Written}
use Rattle.host.specs.declared.Mark.{Mark}
use Rattle.host.specs.declared.MarksChecked.{MarksChecked}
use Rattle.host.specs.declared.Next.{Next}
use Rattle.host.specs.declared.Replayed.{Replayed}

-- what a call that writes a result gives: its number, and the lent buffer after it
pub record Given : Type 0 where
  pub code : ℕ
  pub buffer : List ℕ

-- the number that the result came with, then 2: "the lent output is shorter than the result"
abbrev pub given_code : (code : ℕ) (result out : List ℕ) → ℕ
given_code code result out = on_done code (first_of ((room, ltb (length out) (length result)) ∷ [])) code

-- "On 0 only the result's octets are written; the rest of the buffer stays"
unfoldable pub given : (code : ℕ) (result out : List ℕ) → Given
given code result out =
    record { code = given_code code result out; buffer = on_done (given_code code result out) (written result out) out }

-- the answer of both checks, in a struct that C has
unfoldable pub check_of : Answered Bool Refusal → Check
check_of c = record { answer = number_of c; yes = value_of false c }

-- NT-Response, authenticator string, base key and binding key: the number and the octets of the call's answer
unfoldable pub nt_response_given : (authenticator peer name password out : List ℕ) → Given
nt_response_given authenticator peer name password out =
    let a : Answered (List ℕ) Refusal = nt_response_answer authenticator peer name password in
    given (number_of a) (value_of (replicate response_length 0) a) out

unfoldable pub authenticator_string_given : (password response peer authenticator name out : List ℕ) → Given
authenticator_string_given password response peer authenticator name out =
    let a : Answered (List ℕ) Refusal = authenticator_string_answer password response peer authenticator name in
    given (number_of a) (value_of (replicate string_length 0) a) out

-- which end of the link, and which way, by a yes or no
abbrev pub role_of : Bool → Role
role_of server = pick server Server Client

abbrev pub direction_of : Bool → Direction
direction_of send = pick send Send Receive

unfoldable pub base_key_given : (server : Bool) (send receive out : List ℕ) → Given
base_key_given server send receive out =
    let a : Answered (List ℕ) Refusal = base_key_answer (role_of server) send receive in
    given (number_of a) (value_of (replicate 32 0) a) out

unfoldable pub binding_key_given : (material out : List ℕ) → Given
binding_key_given material out =
    let a : Answered (List ℕ) Refusal = binding_key_answer material in
    given (number_of a) (value_of (replicate 32 0) a) out

-- the start key from credentials: password hash, hash-hash, master key, start key
unfoldable pub master_key_from : (password response : List ℕ) → List ℕ
master_key_from password response = master_key (hash_hash (password_hash password)) response

unfoldable pub start_key_from : (s : Strength) (role : Role) (direction : Direction) (password response : List ℕ) → List ℕ
start_key_from s role direction password response = start_key s role direction (master_key_from password response)

-- "Password: 0 to 512 octets, even"; "NT-Response: 24"
abbrev pub credential_rows : (password response : List ℕ) → List (ℕ × Bool)
credential_rows password response = password_rows password ++ (size, wrong response_length response) ∷ []

-- 8 where the number is no strength (house), before all else
unfoldable pub start_key_given : (bits : ℕ) (server send : Bool) (password response out : List ℕ) → Given
start_key_given bits server send password response out =
    given (first_of ((strength, no_strength bits) ∷ credential_rows password response))
    (start_key_from (strength_of bits) (role_of server) (direction_of send) password response) out

-- a reply by its cases: the six octets of its option ..
unfoldable pub choice_octets : Choice → List ℕ
choice_octets c = option_octets c.mode (only c.strength)

abbrev pub octets_in : CcpReply → List ℕ
octets_in (Accept c) = choice_octets c
octets_in (CounterOffer c) = choice_octets c

abbrev pub reply_octets : Answered CcpReply Refusal → List ℕ
reply_octets (Ok reply) = octets_in reply
reply_octets (Err refusal) = []

-- .. and what is told of it; "an option reply is neither accept nor counter-offer" where its number is not 0
abbrev pub no_reply : ℕ → Reply
no_reply code = record { answer = code; accept = false; bits = 0; stateful = false }

unfoldable pub choice_reply : Bool → Choice → ℕ → Reply
choice_reply accept c code =
    on_done code (record { answer = code; accept = accept; bits = bits_of c.strength; stateful = by_mode c.mode false true }) (no_reply code)

abbrev pub told_of : CcpReply → ℕ → Reply
told_of (Accept c) code = choice_reply true c code
told_of (CounterOffer c) code = choice_reply false c code

abbrev pub reply_of : Answered CcpReply Refusal → ℕ → Reply
reply_of (Ok reply) code = told_of reply code
reply_of (Err refusal) code = no_reply code

-- the strengths that a policy allows, by a yes or no for each
abbrev pub allowed_of : Bool → Bool → Bool → Strengths
allowed_of bits40 bits56 bits128 = record { bits40 = bits40; bits56 = bits56; bits128 = bits128 }

-- "Option reply: 1, 8", then 2
unfoldable pub option_given : (option : List ℕ) (allowed : Strengths) (stateful : Bool) (out : List ℕ) → Given
option_given option allowed stateful out =
    given (number_of (reply_answer option allowed stateful)) (reply_octets (reply_answer option allowed stateful)) out

unfoldable pub option_reply : (option : List ℕ) (allowed : Strengths) (stateful : Bool) (out : List ℕ) → Reply
option_reply option allowed stateful out = reply_of (reply_answer option allowed stateful) (option_given option allowed stateful out).code

-- a new link: 8 where the number is no strength (house), before all else; "Start key: 16 at 128 bits, else 8"
unfoldable pub new_link_given : (bits : ℕ) (stateful : Bool) (start out : List ℕ) → Given
new_link_given bits stateful start out =
    given (first_of ((strength, no_strength bits) ∷ (size, wrong (key_length (strength_of bits)) start) ∷ []))
    (record_octets (new_link (strength_of bits) (mode_if stateful) start).link) out

-- what a call on the record in lent octets gives: its number, the key changes made, and both lent buffers after it
pub record Linked : Type 0 where
  pub code : ℕ
  pub changed : ℕ
  pub octets : List ℕ
  pub buffer : List ℕ

-- a result with its record as octets
abbrev pub linked_by : Result → Linked
linked_by r =
    record {
      code = r.outcome.answer;
      changed = r.outcome.changes;
      octets = record_octets r.outcome.link;
      buffer = r.buffer;
    }

-- "Refusals 1 to 9 hand back the record given and change no lent octet", and so does 10; "No refusal but 11 changes a record"
abbrev pub unchanged : (code : ℕ) (octets out : List ℕ) → Linked
unchanged code octets out = record { code = code; changed = 0; octets = octets; buffer = out }

-- what a call gives with what lent octets hold, and where they are refused
abbrev pub on_read : {A B : Type 0} → (held : A → B) (refused : ℕ → B) → Answered A Refusal → B
on_read held refused (Ok x) = held x
on_read held refused (Err refusal) = refused (number_of_refusal refusal)

-- 7 where the octets hold no record; otherwise the call on the record that they hold, and the record that it hands back written over them
unfoldable pub linked : (call : (Link → Result)) (octets out : List ℕ) → Linked
linked call octets out = on_read (λ l. linked_by (call l)) (λ code. unchanged code octets out) (record_read octets)

unfoldable pub seal_linked : (octets plain out : List ℕ) → Linked
seal_linked octets plain out = linked (λ l. seal_result longest_plain l plain out) octets out

unfoldable pub open_linked : (octets packet out : List ℕ) → Linked
open_linked octets packet out = linked (λ l. open_result longest_plain farthest l packet out) octets out

unfoldable pub opened_by : Linked → Opened
opened_by l = record { answer = l.code; changes = l.changed }

abbrev pub unopened : ℕ → Opened
unopened code = record { answer = code; changes = 0 }

-- a Reset-Request; it has no buffer for a result
unfoldable pub reset_linked : (octets request : List ℕ) → Linked
reset_linked octets request = linked (λ l. record { outcome = reset_outcome l request; buffer = [] }) octets []

-- a packet in pieces (02, M-104): a result with its walk as octets
abbrev pub walked_by : Fed → Linked
walked_by r =
    record {
      code = r.step.answer;
      changed = r.step.changes;
      octets = walk_octets r.step.walk;
      buffer = r.buffer;
    }

-- a step that has no buffer for a result
abbrev pub stepped : Step → Fed
stepped s = record { step = s; buffer = [] }

-- 7 where the octets hold no walk; otherwise the call on the walk that they hold, and the walk that it hands back written over them
unfoldable pub walked : (call : (Walk → Fed)) (octets out : List ℕ) → Linked
walked call octets out = on_read (λ w. walked_by (call w)) (λ code. unchanged code octets out) (walk_read octets)

unfoldable pub feed_walked : (octets piece out : List ℕ) → Linked
feed_walked octets piece out = walked (λ w. feed_result longest_plain farthest w piece out) octets out

unfoldable pub end_walked : (octets : List ℕ) → Linked
end_walked octets = walked (λ w. stepped (end_step longest_plain farthest w)) octets []

-- the octets of a walk closed without reading its record: zeros behind it
abbrev pub closed_octets : (octets : List ℕ) → List ℕ
closed_octets octets = take record_length octets ++ replicate (walk_length - record_length) 0

-- begin with the record in front: what stands behind it does not matter; "a refused begin gives a closed walk", also where there is no
-- record; 7 and nothing changed where the octets are not those of a walk
unfoldable pub begin_walked : (octets four : List ℕ) (total lent : ℕ) → Linked
begin_walked octets four total lent =
    pick (wrong walk_length octets) (unchanged not_record octets [])
    (on_read (λ l. walked_by (stepped (begin_step longest_plain farthest l four total lent)))
    (λ code. unchanged code (closed_octets octets) []) (front_read octets))

-- a tape (02, M-109): what a write and a read tell, in structs that C has; a refused write has written nothing
unfoldable pub written_of : Answered ℕ Refusal → Written
written_of w = record { answer = number_of w; length = value_of 0 w }

unfoldable pub next_in : TapeNext → Next
next_in n = record { answer = number_of n.answer; start = n.start; offset = n.offset }

-- a replay step with a record ..
abbrev pub step_with : Link → (tape : List ℕ) (offset : ℕ) (out : List ℕ) → TapeStep
step_with l tape offset out = replay_step most_groups longest_plain farthest (held l out) tape offset

-- .. with the record in lent octets ..
unfoldable pub replay_linked : (octets tape : List ℕ) (offset : ℕ) (out : List ℕ) → Linked
replay_linked octets tape offset out = linked (λ l. (step_with l tape offset out).result) octets out

-- .. and its offset: 0 where the octets hold no record, as for every 7
unfoldable pub replay_offset : (octets tape : List ℕ) (offset : ℕ) (out : List ℕ) → ℕ
replay_offset octets tape offset out = on_read (λ l. (step_with l tape offset out).offset) (λ code. 0) (record_read octets)

unfoldable pub replayed_by : Linked → (offset : ℕ) → Replayed
replayed_by l offset = record { answer = l.code; changes = l.changed; offset = offset }

-- marks beside a tape (02, M-111), with the start record in lent octets: 7 where these hold no record; the list written ..
unfoldable pub marks_written : (octets tape out : List ℕ) → Written
marks_written octets tape out =
    on_read (λ l. written_of (write_answer most_groups longest_plain farthest l tape out)) (λ code. record { answer = code; length = 0 }) (record_read octets)

unfoldable pub marks_out : (octets tape out : List ℕ) → List ℕ
marks_out octets tape out = on_read (λ l. write_out most_groups longest_plain farthest l tape out) (λ code. out) (record_read octets)

-- .. and checked
abbrev pub checked_of : Answered Checks Refusal → MarksChecked
checked_of c = record { answer = number_of c; yes = (value_of unchecked c).yes; agreeing = (value_of unchecked c).agreeing }

unfoldable pub marks_checked : (octets tape marks : List ℕ) → MarksChecked
marks_checked octets tape marks =
    on_read (λ l. checked_of (checked most_groups longest_plain farthest l tape marks)) (λ code. record { answer = code; yes = false; agreeing = 0 })
    (record_read octets)

-- a mark read: its link record into lent octets, 2 where these are too few, and its numbers
unfoldable pub mark_given : (octets out : List ℕ) → Given
mark_given octets out = given (number_of (mark_read octets)) (record_octets (value_of no_mark (mark_read octets)).link) out

unfoldable pub mark_told : (octets out : List ℕ) → Mark
mark_told octets out =
    let code : ℕ = (mark_given octets out).code in
    let m : TapeMark = value_of no_mark (mark_read octets) in
    record { answer = code; opened = on_done code m.opened 0; offset = on_done code m.offset 0 }
