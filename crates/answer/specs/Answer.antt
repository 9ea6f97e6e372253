-- The numbers a call may answer (01, "Numbers a call may answer", and 02), and how a call picks one.
use Rattle.std.specs.Prelude.{Bool, true, false, not, List, [], ◌∷◌, ℕ, zero, suc, eqb, ltb, length, get_or, Result, Ok, Err}
use Rattle.answer.specs.declared.Refusal.{Refusal}
use Rattle.answer.specs.declared.Refusal.TheVariants.{Shape, Room, Size, Protocol, Flags, Repeat, Record, Strength, Domain, Late, Waiting}

abbrev pub done : ℕ
done = 0

abbrev pub shape : ℕ
shape = 1

abbrev pub room : ℕ
room = 2

abbrev pub size : ℕ
size = 3

abbrev pub protocol : ℕ
protocol = 4

abbrev pub flags : ℕ
flags = 5

abbrev pub repeat : ℕ
repeat = 6

abbrev pub not_record : ℕ
not_record = 7

abbrev pub strength : ℕ
strength = 8

-- no longer given (02, M-100); it keeps its number, so that no other refusal is ever 9
abbrev pub domain : ℕ
domain = 9

-- "2,049 to 4,095 are refused with 10, late" (02, M-101)
abbrev pub late : ℕ
late = 10

-- "otherwise answer 11, waiting" (02, M-103)
abbrev pub waiting : ℕ
waiting = 11

-- "Where an answer is an enum, a definition gives this paper's number and values for each of its cases": a refusal's number
abbrev pub number : Refusal → ℕ
number Shape = shape
number Room = room
number Size = size
number Protocol = protocol
number Flags = flags
number Repeat = repeat
number Record = not_record
number Strength = strength
number Domain = domain
number Late = late
number Waiting = waiting

-- the number of a call's answer: 0, or that of its refusal
abbrev pub number_of : {A : Type 0} → Result A Refusal → ℕ
number_of (Ok x) = done
number_of (Err refusal) = number refusal

-- its values: those of the result, or what a refusal has there ("a refused answer's other numbers and octets are 0, its parts empty, its yes or no a no")
abbrev pub value_of : {A : Type 0} → A → Result A Refusal → A
value_of refused (Ok x) = x
value_of refused (Err refusal) = refused

-- the refusals in the order of their numbers, from 1 on
abbrev pub refusals_in_order : List Refusal
refusals_in_order = Shape ∷ Room ∷ Size ∷ Protocol ∷ Flags ∷ Repeat ∷ Record ∷ Strength ∷ Domain ∷ Late ∷ Waiting ∷ []

-- what a call of a number gives: its result where the number is 0, and otherwise the refusal that has the number
abbrev pub result_of : {A : Type 0} → ℕ → A → Result A Refusal
result_of zero result = Ok result
result_of (suc n) result = Err (get_or refusals_in_order n Waiting)

-- the first where the test holds, else the second
abbrev pub pick : {A : Type 0} → Bool → A → A → A
pick true a b = a
pick false a b = b

-- a length that lies outside its limits
abbrev pub outside : ℕ → ℕ → ℕ → Bool
outside low high n = pick (ltb n low) true (ltb high n)

-- an input that has not the one length named
abbrev pub wrong : ℕ → List ℕ → Bool
wrong n input = not (eqb (length input) n)

-- "Each call gives the first that applies": rows of a number and whether it applies, in the paper's order; 0 where none does
abbrev pub first_of : List (ℕ × Bool) → ℕ
first_of [] = done
first_of (row ∷ rows) = pick row.1 row.0 (first_of rows)

-- what an answer holds: the result where its number is 0, and otherwise what a refusal has there
abbrev pub on_done : {A : Type 0} → ℕ → A → A → A
on_done zero result refused = result
on_done (suc n) result refused = refused

-- the number for one input of the one length named, and for two
unfoldable pub one_code : ℕ → List ℕ → ℕ
one_code n a = first_of ((size, wrong n a) ∷ [])

unfoldable pub two_code : (n : ℕ) (a : List ℕ) (m : ℕ) (b : List ℕ) → ℕ
two_code n a m b = first_of ((size, wrong n a) ∷ (size, wrong m b) ∷ [])
