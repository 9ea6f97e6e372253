-- Laws of the option, which follow from the definitions alone.
use Rattle.std.specs.Prelude.{◌≡◌, refl, Bool, true, false, not, List, [], ◌∷◌, ◌⊎◌, ℕ, zero, suc, ◌≤◌, eqb, take, get_or, Result, Ok, Err}
use Rattle.std.proofs.Common.{ap, ◌∙◌, inl, inr, arith, eqb-true}
use Rattle.std.proofs.lemmas.Bool.{false≢true}
use Rattle.answer.specs.declared.Refusal.{Refusal}
use Rattle.answer.specs.Answer.{done, shape, strength, pick, wrong, first_of, on_done, number_of, value_of, result_of}
use Rattle.answer.specs.Laws.{number_first, ok_only, err_only}
use Rattle.octets.specs.Octets.{pair_at, word_be}
use Rattle.mppe_keys.specs.Keys.{bits_of}
use Rattle.mppe_keys.specs.declared.Strength.{Strength}
use Rattle.mppe_keys.specs.declared.Strength.TheVariants.{Bits40, Bits56, Bits128}
use Rattle.mppe_keys.specs.declared.Mode.{Mode}
use Rattle.mppe_keys.specs.declared.Mode.TheVariants.{Stateless, Stateful}
use Rattle.ccp.specs.declared.Strengths.{Strengths}
use Rattle.ccp.specs.declared.Offer.{Offer}
use Rattle.ccp.specs.declared.Choice.{Choice}
use Rattle.ccp.specs.declared.Reply.TheVariants.{Accept, CounterOffer}
use Rattle.ccp.specs.Option.{option_length, mode_of, strengths_of, word_of, option_octets, none_of, strongest, choice_word}
use Rattle.ccp.specs.Reset.{reset_request, reset_length, reset_octets, reset_rows, reset_code, reset_answer, write_reset_code, write_reset_out}
use Rattle.ccp.specs.Answers.{read_code, supported_bits, read_answer, no_offer, write_code, write_out, usable, reply_code, replied_word, chosen, reply_with, reply_answer, reply_word}

-- what is written reads back to the same mode and strengths
reads_back : (mode : Mode) (bits40 bits56 bits128 : Bool)
    → ◌≡◌ {A = Result Offer Refusal}
    (read_answer (option_octets mode (record { bits40 = bits40; bits56 = bits56; bits128 = bits128 })))
    (Ok (record { mode = mode; strengths = record { bits40 = bits40; bits56 = bits56; bits128 = bits128 } }))
unfolding read_answer read_code supported_bits option_octets word_of mode_of strengths_of
reads_back Stateless true true true = refl
reads_back Stateless true true false = refl
reads_back Stateless true false true = refl
reads_back Stateless true false false = refl
reads_back Stateless false true true = refl
reads_back Stateless false true false = refl
reads_back Stateless false false true = refl
reads_back Stateless false false false = refl
reads_back Stateful true true true = refl
reads_back Stateful true true false = refl
reads_back Stateful true false true = refl
reads_back Stateful true false false = refl
reads_back Stateful false true true = refl
reads_back Stateful false true false = refl
reads_back Stateful false false true = refl
reads_back Stateful false false false = refl

pub written_reads_back : (mode : Mode) (s : Strengths) (out : List ℕ) → write_code out ≡ done
    → ◌≡◌ {A = Result Offer Refusal} (read_answer (take option_length (write_out mode s out))) (Ok (record { mode = mode; strengths = s }))
unfolding write_out option_octets
written_reads_back mode s out e = rw e (reads_back mode s.bits40 s.bits56 s.bits128)

-- what supported bits offer
abbrev offer_of : ℕ → Offer
offer_of word = record { mode = mode_of word; strengths = strengths_of word }

-- what a refused option reads as is the mode and the strengths of its supported bits, the word 0
pub refused_offer : (option : List ℕ)
    → ◌≡◌ {A = Offer}
    (value_of no_offer (read_answer option))
    (record { mode = mode_of (supported_bits option); strengths = strengths_of (supported_bits option) })
unfolding read_answer supported_bits mode_of strengths_of
refused_offer option = go (read_code option)
  where
    go : (n : ℕ) → value_of no_offer (result_of n (offer_of (on_done n (word_be option 2) 0))) ≡ offer_of (on_done n (word_be option 2) 0)
    go zero = refl
    go (suc n) = refl

-- a reply with a choice, case by case: its word, an accept's, and what either carries
word_replied : (n : ℕ) (t : Bool) (c : Choice) → reply_word (result_of n (pick t (Accept c) (CounterOffer c))) ≡ on_done n (choice_word c) 0
word_replied zero true c = refl
word_replied zero false c = refl
word_replied (suc n) t c = refl

word_accepted : (n : ℕ) (t : Bool) (word : ℕ) (c choice : Choice) → eqb word (choice_word c) ≡ t
    → result_of n (pick t (Accept c) (CounterOffer c)) ≡ Ok (Accept choice) → word ≡ choice_word choice
word_accepted zero true word c choice e h =
    let same : c ≡ choice = cc in
    eqb-true word (choice_word c) e ∙ ap choice_word same
word_accepted zero false word c choice e h = cc
word_accepted (suc n) t word c choice e h = cc

choice_carried : (n : ℕ) (t : Bool) (c choice : Choice)
    → (result_of n (pick t (Accept c) (CounterOffer c)) ≡ Ok (Accept choice)) ⊎ (result_of n (pick t (Accept c) (CounterOffer c)) ≡ Ok (CounterOffer choice))
    → (n ≡ done) × (c ≡ choice)
choice_carried zero true c choice (inl h) = (refl, cc)
choice_carried zero true c choice (inr h) = (refl, cc)
choice_carried zero false c choice (inl h) = (refl, cc)
choice_carried zero false c choice (inr h) = (refl, cc)
choice_carried (suc n) t c choice (inl h) = (cc, cc)
choice_carried (suc n) t c choice (inr h) = (cc, cc)

-- the number of a reply is the first row that applies; its word is that of the choice, and 0 where it is refused
pub reply_told : (option : List ℕ) (allowed : Strengths) (stateful : Bool)
    → (number_of (reply_answer option allowed stateful) ≡ reply_code option allowed)
    × (reply_word (reply_answer option allowed stateful) ≡ replied_word option allowed stateful)
unfolding reply_answer reply_with reply_code replied_word
reply_told option allowed stateful =
    (number_first ((shape, not (eqb (read_code option) done)) ∷ (strength, none_of (usable option allowed)) ∷ []) _ refl, word_replied (reply_code option allowed) _ (chosen option allowed stateful))

-- an accept's word is the request's word
pub accept_word : (option : List ℕ) (allowed : Strengths) (stateful : Bool) (choice : Choice) → reply_answer option allowed stateful ≡ Ok (Accept choice)
    → supported_bits option ≡ choice_word choice
unfolding reply_answer reply_with
accept_word option allowed stateful choice =
    word_accepted (reply_code option allowed) _ (supported_bits option) (chosen option allowed stateful) choice refl

-- whether a strength is among strengths
abbrev pub has : Strengths → Strength → Bool
has s Bits40 = s.bits40
has s Bits56 = s.bits56
has s Bits128 = s.bits128

-- the strongest of strengths is among them ..
strongest_has : (s : Strengths) → none_of s ≡ false → has s (strongest s) ≡ true
strongest_has s = go s.bits40 s.bits56 s.bits128
  where
    go : (a b c : Bool) → none_of (record { bits40 = a; bits56 = b; bits128 = c }) ≡ false
        → has (record { bits40 = a; bits56 = b; bits128 = c }) (strongest (record { bits40 = a; bits56 = b; bits128 = c })) ≡ true
    go a b true h = refl
    go a true false h = refl
    go true false false h = refl
    go false false false h = cc

-- .. and none of them is stronger
at_most_128 : (x : Strength) → bits_of x ≤ 128
at_most_128 Bits40 = omega arith
at_most_128 Bits56 = omega arith
at_most_128 Bits128 = omega arith

strongest_most : (s : Strengths) (x : Strength) → has s x ≡ true → bits_of x ≤ bits_of (strongest s)
strongest_most s = go s.bits40 s.bits56 s.bits128
  where
    go : (a b c : Bool) (x : Strength) → has (record { bits40 = a; bits56 = b; bits128 = c }) x ≡ true
        → bits_of x ≤ bits_of (strongest (record { bits40 = a; bits56 = b; bits128 = c }))
    go a b true x h = at_most_128 x
    go a b false Bits128 h = absurd (false≢true h)
    go a true false Bits40 h = omega arith
    go a true false Bits56 h = omega arith
    go a false false Bits40 h = omega arith
    go a false false Bits56 h = absurd (false≢true h)

-- an accept and a counter-offer carry what was chosen
carried : (option : List ℕ) (allowed : Strengths) (stateful : Bool) (choice : Choice)
    → (reply_answer option allowed stateful ≡ Ok (Accept choice)) ⊎ (reply_answer option allowed stateful ≡ Ok (CounterOffer choice))
    → (reply_code option allowed ≡ done) × (chosen option allowed stateful ≡ choice)
unfolding reply_answer reply_with
carried option allowed stateful choice = choice_carried (reply_code option allowed) _ (chosen option allowed stateful) choice

-- no refusal: there is a strength to pick
any_usable : (option : List ℕ) (allowed : Strengths) → reply_code option allowed ≡ done → none_of (usable option allowed) ≡ false
unfolding reply_code
any_usable option allowed = go (not (eqb (read_code option) done)) (none_of (usable option allowed))
  where
    go : (a b : Bool) → first_of ((shape, a) ∷ (strength, b) ∷ []) ≡ done → b ≡ false
    go true b h = cc
    go false true h = cc
    go false false h = refl

-- the strength of an accept or a counter-offer is offered and allowed, no stronger one is both, and the mode is the one asked for where
-- the policy allows stateful, and else stateless
pub best_choice : (option : List ℕ) (allowed : Strengths) (stateful : Bool) (choice : Choice)
    → (reply_answer option allowed stateful ≡ Ok (Accept choice)) ⊎ (reply_answer option allowed stateful ≡ Ok (CounterOffer choice))
    → (has (usable option allowed) choice.strength ≡ true)
    × ((x : Strength) → has (usable option allowed) x ≡ true → bits_of x ≤ bits_of choice.strength)
    × (choice.mode ≡ pick stateful (mode_of (supported_bits option)) Stateless)
unfolding chosen
best_choice option allowed stateful choice h =
    let told = carried option allowed stateful choice h in
    rw (← told.1) (strongest_has (usable option allowed) (any_usable option allowed told.0), strongest_most (usable option allowed), refl)

-- a Reset-Request that is written reads back
pub reset_reads_back : (identifier : ℕ) (out : List ℕ) → write_reset_code out ≡ done
    → ◌≡◌ {A = Result ℕ Refusal} (reset_answer (take reset_length (write_reset_out identifier out))) (Ok identifier)
unfolding write_reset_out reset_octets reset_answer reset_code
reset_reads_back identifier out e = rw e

-- what the answer to a Reset-Request says of its rows
pub reset_done : {identifier : ℕ} (request : List ℕ) → reset_answer request ≡ Ok identifier → first_of (reset_rows request) ≡ done
unfolding reset_answer reset_code
reset_done request e = (ok_only (first_of (reset_rows request)) (get_or request 1 0) e).0

pub reset_shape : {refusal : Refusal} (request : List ℕ) → reset_answer request ≡ Err refusal → first_of (reset_rows request) ≡ shape
unfolding reset_answer reset_code
reset_shape request e =
    one (wrong reset_length request) (not (eqb (get_or request 0 0) reset_request)) (not (eqb (pair_at 2 request) reset_length)) (err_only (first_of (reset_rows request)) (get_or request 1 0) e)
  where
    one : (a b c : Bool) → (first_of ((shape, a) ∷ (shape, b) ∷ (shape, c) ∷ []) ≡ done → ⊥) → first_of ((shape, a) ∷ (shape, b) ∷ (shape, c) ∷ []) ≡ shape
    one true b c h = refl
    one false true c h = refl
    one false false true h = refl
    one false false false h = absurd (h refl)
