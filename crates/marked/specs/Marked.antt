-- The fourteen marked cases of 01, K1 to K14: a list of pairs of what the definitions give and what 01 says, under one claim.
use Rattle.std.specs.Prelude.{◌≡◌, Bool, true, false, List, [], ◌∷◌, ℕ, Result, Ok, Err}
use Rattle.answer.specs.declared.Refusal.{Refusal}
use Rattle.answer.specs.declared.Refusal.TheVariants.{Strength}
use Rattle.answer.specs.Answer.{strength, number_of}
use Rattle.mppe_keys.specs.declared.Strength.TheVariants.{Bits40, Bits56, Bits128}
use Rattle.mppe_keys.specs.declared.Mode.TheVariants.{Stateless}
use Rattle.mppe_keys.specs.Keys.{reduced}
use Rattle.ccp.specs.declared.Strengths.{Strengths}
use Rattle.ccp.specs.declared.Reply.{Reply}
use Rattle.ccp.specs.declared.Reply.TheVariants.{CounterOffer}
use Rattle.ccp.specs.Option.{only}
use Rattle.ccp.specs.Answers.{read_answer, reply_answer, reply_word}
use Rattle.mppe.specs.Link.{distance, header}
use Rattle.sstp.specs.Binding.{length_octets}

-- what is given, and what must be
pub record Pair : Type 1 where
  pub A : Type 0
  pub given : A
  pub expected : A

abbrev pub pair : {A : Type 0} → A → A → Pair
pair {A} given expected = record { A = A; given = given; expected = expected }

-- both are the same in every pair
abbrev pub AllEqual : List Pair → Type 0
AllEqual [] = Unit {0}
AllEqual (p ∷ ps) = (p.given ≡ p.expected) × AllEqual ps

-- an option's six octets, with these supported bits: "Type 18, length 6, four octets, highest first"
abbrev option : List ℕ → List ℕ
option bits = 0x12 ∷ 0x06 ∷ bits

-- all strengths allowed
abbrev every : Strengths
every = record { bits40 = true; bits56 = true; bits128 = true }

-- a counter-offer with its word, by a policy that allows these strengths, and stateful mode or not
abbrev pub replied : List ℕ → Strengths → (stateful : Bool) → Result Reply Refusal × ℕ
replied request allowed stateful = (reply_answer request allowed stateful, reply_word (reply_answer request allowed stateful))

-- a reply with its number
abbrev pub numbered : Result Reply Refusal → Result Reply Refusal × ℕ
numbered reply = (reply, number_of reply)

abbrev pub cases : List Pair
cases =
    -- "K1 to K5, distance for last, arrived: (4095, 0) 1; (2, 5) 3; (4094, 1) 3; (0, 4095) 4095; (7, 7) 0."
    pair (distance 4095 0) 1
    ∷ pair (distance 2 5) 3
    ∷ pair (distance 4094 1) 3
    ∷ pair (distance 0 4095) 4095
    ∷ pair (distance 7 7) 0
    -- "K6 to K8, headers: count 0 is 90 00; 256 is 91 00; 4095 is 9F FF."
    ∷ pair (header true 0) (0x90 ∷ 0x00 ∷ [])
    ∷ pair (header true 256) (0x91 ∷ 0x00 ∷ [])
    ∷ pair (header true 4095) (0x9F ∷ 0xFF ∷ [])
    -- "K9: 01000040 reads stateless, 128."
    ∷ pair (read_answer (option (0x01 ∷ 0x00 ∷ 0x00 ∷ 0x40 ∷ []))) (Ok (record { mode = Stateless; strengths = only Bits128 }))
    -- "K10: request 010000E0, all allowed, counter-offer 01000040": the request has H, so a policy that allows stateful keeps it
    ∷ pair (replied (option (0x01 ∷ 0x00 ∷ 0x00 ∷ 0xE0 ∷ [])) every true) (Ok (CounterOffer (record { strength = Bits128; mode = Stateless })), 0x01000040)
    -- "K11: 00000020, all allowed, counter-offer 01000020"; "K11's policy doesn't" allow stateful (02, M-103)
    ∷ pair (replied (option (0x00 ∷ 0x00 ∷ 0x00 ∷ 0x20 ∷ [])) every false) (Ok (CounterOffer (record { strength = Bits40; mode = Stateless })), 0x01000020)
    -- "K12: 01000020, only 128 allowed, 8."
    ∷ pair (numbered (reply_answer (option (0x01 ∷ 0x00 ∷ 0x00 ∷ 0x20 ∷ [])) (only Bits128) false)) (Err Strength, strength)
    -- "K13: D8 08 01 53 8C EC 4A 08 reduced to 56 is D1 08 01 53 8C EC 4A 08"
    ∷ pair (reduced Bits56 (0xD8 ∷ 0x08 ∷ 0x01 ∷ 0x53 ∷ 0x8C ∷ 0xEC ∷ 0x4A ∷ 0x08 ∷ []))
    (0xD1 ∷ 0x08 ∷ 0x01 ∷ 0x53 ∷ 0x8C ∷ 0xEC ∷ 0x4A ∷ 0x08 ∷ [])
    -- "K14: length 32 is written 20 00."
    ∷ pair length_octets (0x20 ∷ 0x00 ∷ [])
    ∷ []
