-- What the calls answer (01, "Numbers a call may answer" and "The option").
use Rattle.std.specs.Prelude.{Bool, false, not, List, [], ◌∷◌, ℕ, eqb, ltb, length, get_or, Result, Ok, Err}
use Rattle.answer.specs.declared.Refusal.{Refusal}
use Rattle.answer.specs.Answer.{done, shape, room, strength, pick, first_of, on_done, wrong, result_of}
use Rattle.octets.specs.Octets.{written, word_be}
use Rattle.mppe_keys.specs.declared.Mode.{Mode}
use Rattle.mppe_keys.specs.declared.Mode.TheVariants.{Stateless, Stateful}
use Rattle.ccp.specs.declared.Strengths.{Strengths}
use Rattle.ccp.specs.declared.Offer.{Offer}
use Rattle.ccp.specs.declared.Choice.{Choice}
use Rattle.ccp.specs.declared.Reply.{Reply}
use Rattle.ccp.specs.declared.Reply.TheVariants.{Accept, CounterOffer}
use Rattle.ccp.specs.Option.{option_type, option_length, mode_of, strengths_of, option_octets, common, none_of, strongest, choice_word}

-- the number for an option to be read: "Wrong type, length or slice other than six octets: 1"
unfoldable pub read_code : List ℕ → ℕ
read_code option =
    first_of
    ((shape, wrong option_length option)
    ∷ (shape, not (eqb (get_or option 0 0) option_type))
    ∷ (shape, not (eqb (get_or option 1 0) option_length))
    ∷ [])

-- the supported bits of an option; none where it is refused
unfoldable pub supported_bits : List ℕ → ℕ
supported_bits option = on_done (read_code option) (word_be option 2) 0

-- what an option that is not refused offers
unfoldable pub read_answer : List ℕ → Result Offer Refusal
read_answer option =
    result_of (read_code option) (record { mode = mode_of (supported_bits option); strengths = strengths_of (supported_bits option) })

-- what a refused option has in its place: it has no bit, so it offers no strength and its mode is that of bit H at 0
abbrev pub no_offer : Offer
no_offer = record { mode = Stateful; strengths = record { bits40 = false; bits56 = false; bits128 = false } }

-- the number for a lent buffer
abbrev pub write_code : List ℕ → ℕ
write_code out = first_of ((room, ltb (length out) option_length) ∷ [])

-- the lent buffer, with the option in front where it has room
unfoldable pub write_out : Mode → Strengths → List ℕ → List ℕ
write_out mode strengths out = on_done (write_code out) (written (option_octets mode strengths) out) out

-- strengths that are both offered by an option and allowed
abbrev pub usable : List ℕ → Strengths → Strengths
usable option allowed = common (strengths_of (supported_bits option)) allowed

-- the number for an option to be replied to: "Option reply: 1, 8"
unfoldable pub reply_code : List ℕ → Strengths → ℕ
reply_code option allowed =
    first_of ((shape, not (eqb (read_code option) done)) ∷ (strength, none_of (usable option allowed)) ∷ [])

-- "the strongest strength that is offered and allowed, with H set"; "If the policy allows stateful, the reply keeps the request's H" (02,
-- M-103)
unfoldable pub chosen : List ℕ → Strengths → (stateful : Bool) → Choice
chosen option allowed stateful =
    record { strength = strongest (usable option allowed); mode = pick stateful (mode_of (supported_bits option)) Stateless }

-- "accept exactly if the request is that word and no other bit"
unfoldable pub reply_with : ℕ → Choice → Reply
reply_with word choice = pick (eqb word (choice_word choice)) (Accept choice) (CounterOffer choice)

unfoldable pub reply_answer : List ℕ → Strengths → (stateful : Bool) → Result Reply Refusal
reply_answer option allowed stateful = result_of (reply_code option allowed) (reply_with (supported_bits option) (chosen option allowed stateful))

-- the word of a reply: that of the choice, and 0 where it is refused
unfoldable pub replied_word : List ℕ → Strengths → (stateful : Bool) → ℕ
replied_word option allowed stateful = on_done (reply_code option allowed) (choice_word (chosen option allowed stateful)) 0

-- the supported bits of a reply, and of a refusal
abbrev pub word_in : Reply → ℕ
word_in (Accept choice) = choice_word choice
word_in (CounterOffer choice) = choice_word choice

abbrev pub reply_word : Result Reply Refusal → ℕ
reply_word (Ok reply) = word_in reply
reply_word (Err refusal) = 0
