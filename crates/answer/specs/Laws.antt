-- Laws of the table: which number a call answers, what its number says of the rows, and what an answer then holds.
use Rattle.std.specs.Prelude.{◌≡◌, refl, Bool, true, false, not, ◌&&◌, List, [], ◌∷◌, ◌++◌, ℕ, zero, suc, ◌<◌, ◌≤◌, eqb, ltb, length, drop, get_or, Result, Ok, Err, is_ok}
use Rattle.std.proofs.Common.{sym, ap, ◌∙◌, true≢false, suc-ne-zero, le_trans, lt-ltb, le-ltb, ltb-false, eq-eqb, ne_eqb, eqb-true}
use Rattle.std.proofs.lemmas.Bool.{false≢true, ltb-true}
use Rattle.std.proofs.Common.{arith}
use Rattle.answer.specs.declared.Refusal.{Refusal}
use Rattle.answer.specs.declared.Refusal.TheVariants.{Waiting}
use Rattle.answer.specs.Answer.{done, size, pick, outside, wrong, first_of, on_done, refusals_in_order, result_of, number_of, value_of}

-- both of two tests hold
pub both : (a b : Bool) → a && b ≡ true → (a ≡ true) × (b ≡ true)
both true b e = (refl, e)
both false b e = absurd (false≢true e)

-- what a test picks: from what holds either way, and under a function
pub by_test : {A : Type 0} {x a b : A} (t : Bool) → (t ≡ true → x ≡ a) → (t ≡ false → x ≡ b) → x ≡ pick t a b
by_test true f g = f refl
by_test false f g = g refl

pub test_under : {A B : Type 0} (f : A → B) (t : Bool) (a b : A) → f (pick t a b) ≡ pick t (f a) (f b)
test_under f true a b = refl
test_under f false a b = refl

-- a table while its rows are looked at in turn: the number that it gives, and the rows behind those that do not apply
pub record Passed : Type 0 where
  pub code : ℕ
  pub left : List (ℕ × Bool)
  pub same : first_of left ≡ code

abbrev pub table : (code : ℕ) (rows : List (ℕ × Bool)) → first_of rows ≡ code → Passed
table code rows e = record { code = code; left = rows; same = e }

-- the next row, which decides unless it does not apply; behind the last there is none that applies
abbrev pub next : List (ℕ × Bool) → ℕ × Bool
next [] = (done, false)
next (row ∷ rows) = row

pub decides : {t : Bool} (rows : List (ℕ × Bool)) → (next rows).1 ≡ t → pick t (next rows).0 (first_of (drop 1 rows)) ≡ first_of rows
decides [] e = rw (← e)
decides (row ∷ rows) e = rw (← e)

-- one that does not apply is passed, and one that does gives its number
abbrev pub pass : (p : Passed) → (next p.left).1 ≡ false → Passed
pass p e = table p.code (drop 1 p.left) (decides p.left e ∙ p.same)

pub stop : (p : Passed) → (next p.left).1 ≡ true → (next p.left).0 ≡ p.code
stop p e = decides p.left e ∙ p.same

-- all numbers of these rows are refusals
abbrev pub refusals : List (ℕ × Bool) → Bool
refusals [] = true
refusals (row ∷ rows) = on_done row.0 false (refusals rows)

-- no row of this number applies: a fact for each row that has it
abbrev pub ClearIf : Bool → Bool → Type 0 → Type 0
ClearIf true t rest = (t ≡ false) × rest
ClearIf false t rest = rest

abbrev pub Clear : ℕ → List (ℕ × Bool) → Type 0
Clear n [] = Unit {0}
Clear n (row ∷ rows) = ClearIf (eqb row.0 n) row.1 (Clear n rows)

-- where a call answers 0, no row of any number applies
pub clear : (n : ℕ) (rows : List (ℕ × Bool)) → refusals rows ≡ true → first_of rows ≡ done → Clear n rows
clear n [] all e = tt
clear n ((zero, t) ∷ rows) all e = absurd (false≢true all)
clear n ((suc m, true) ∷ rows) all e = absurd (suc-ne-zero m e)
clear n ((suc m, false) ∷ rows) all e = go (eqb (suc m) n) (clear n rows all e)
  where
    go : (t : Bool) → Clear n rows → ClearIf t false (Clear n rows)
    go true rest = (refl, rest)
    go false rest = rest

-- a refusal that no row has is never answered
abbrev pub numbered : ℕ → List (ℕ × Bool) → Bool
numbered n [] = false
numbered n (row ∷ rows) = pick (eqb row.0 n) true (numbered n rows)

none_behind : (t rest : Bool) → pick t true rest ≡ false → rest ≡ false
none_behind true rest none = absurd (true≢false none)
none_behind false rest none = none

pub never : (n : ℕ) (rows : List (ℕ × Bool)) → on_done n false true ≡ true → numbered n rows ≡ false → first_of rows ≡ n → ⊥
never n [] some none e = false≢true (rw (← e) at some)
never n ((m, true) ∷ rows) some none e = true≢false (rw (eq-eqb m n e) at none)
never n ((m, false) ∷ rows) some none e = never n rows some (none_behind (eqb m n) (numbered n rows) none) e

-- rows of which none applies leave it to those behind them; where one applies, those behind do not matter
pub rows_pass : (rows rest : List (ℕ × Bool)) → refusals rows ≡ true → first_of rows ≡ done → first_of (rows ++ rest) ≡ first_of rest
rows_pass [] rest all e = refl
rows_pass ((zero, t) ∷ rows) rest all e = absurd (false≢true all)
rows_pass ((suc n, true) ∷ rows) rest all e = absurd (suc-ne-zero n e)
rows_pass ((suc n, false) ∷ rows) rest all e = rows_pass rows rest all e

pub rows_stop : (rows rest : List (ℕ × Bool)) → (first_of rows ≡ done → ⊥) → first_of (rows ++ rest) ≡ first_of rows
rows_stop [] rest e = absurd (e refl)
rows_stop ((n, true) ∷ rows) rest e = refl
rows_stop ((n, false) ∷ rows) rest e = rows_stop rows rest e

-- where a number is answered that no row in front has, none of these applies
pub rows_passed : (n : ℕ) (rows rest : List (ℕ × Bool)) → numbered n rows ≡ false → first_of (rows ++ rest) ≡ n → first_of rows ≡ done
rows_passed n [] rest none e = refl
rows_passed n ((m, true) ∷ rows) rest none e = absurd (true≢false (rw (eq-eqb m n e) at none))
rows_passed n ((m, false) ∷ rows) rest none e = rows_passed n rows rest (none_behind (eqb m n) (numbered n rows) none) e

-- a number that is not 0 leaves what a refusal has
pub not_done : {A : Type 0} (code : ℕ) (result refused : A) → (code ≡ done → ⊥) → on_done code result refused ≡ refused
not_done zero result refused h = absurd (h refl)
not_done (suc n) result refused h = refl

-- a number below its limits, above them, and within them
pub outside_low : (low high n : ℕ) → n < low → outside low high n ≡ true
outside_low low high n h = rw (lt-ltb n low h)

pub outside_high : (low high n : ℕ) → low ≤ n → high < n → outside low high n ≡ true
outside_high low high n l h = rw (le-ltb n low l, lt-ltb high n h)

pub outside_none : (low high n : ℕ) → low ≤ n → n ≤ high → outside low high n ≡ false
outside_none low high n l h = rw (le-ltb n low l, le-ltb high n h)

pub within : (low high n : ℕ) → outside low high n ≡ false → (low ≤ n) × (n ≤ high)
within low high n e = (ltb-false n low (neither (ltb n low) (ltb high n) e).0, ltb-false high n (neither (ltb n low) (ltb high n) e).1)
  where
    neither : (a b : Bool) → pick a true b ≡ false → (a ≡ false) × (b ≡ false)
    neither true b e = absurd (true≢false e)
    neither false b e = (refl, e)

-- a number that is not above its limit: a larger limit says the same of it
pub outside_larger : (low high high' n : ℕ) → n ≤ high → high ≤ high' → outside low high' n ≡ outside low high n
outside_larger low high high' n h larger = rw (le-ltb high n h, le-ltb high' n (le_trans h larger))

-- an input of the one length named, and one of another
pub right : (n : ℕ) (input : List ℕ) → length input ≡ n → wrong n input ≡ false
right n input h = rw (eq-eqb (length input) n h)

pub not_right : (n : ℕ) (input : List ℕ) → (length input ≡ n → ⊥) → wrong n input ≡ true
not_right n input h = rw (ne_eqb (length input) n h)

pub right_length : (n : ℕ) (input : List ℕ) → wrong n input ≡ false → length input ≡ n
right_length n input e = eqb-true (length input) n (go (eqb (length input) n) e)
  where
    go : (t : Bool) → not t ≡ false → t ≡ true
    go true e = refl
    go false e = absurd (true≢false e)

-- its row
pub row_wrong : (n : ℕ) (input : List ℕ) (rest : ℕ) → (length input ≡ n → ⊥) → size ≡ pick (wrong n input) size rest
row_wrong n input rest h = rw (not_right n input h)

pub row_right : {code : ℕ} (n : ℕ) (input : List ℕ) (rest : ℕ) → length input ≡ n → code ≡ rest → code ≡ pick (wrong n input) size rest
row_right n input rest h e = rw (right n input h) e

pub not_size : size ≡ done → ⊥
not_size e = suc-ne-zero 2 e

-- the ways out of a call that answers a number and a result: a refusal, and one that is done
pub refused : {A B : Type 0} {n : ℕ} (make : ℕ → B → A) (code : ℕ) (result zeros : B) → n ≡ code → (n ≡ done → ⊥)
    → make n zeros ≡ make code (on_done code result zeros)
refused make code result zeros e h = rw (e, not_done code result zeros (λ z. h (e ∙ z)))

pub answered : {A B : Type 0} {o : B} (make : ℕ → B → A) (code : ℕ) (result zeros : B) → code ≡ done → o ≡ result
    → make done o ≡ make code (on_done code result zeros)
answered make code result zeros e eo = rw (e, eo)

-- what a caller learns from its answer
pub told : {A B : Type 0} {x : A} (answer-of : A → ℕ) (result-of : A → B) (y : A) (code : ℕ) (result zeros : B) → x ≡ y → answer-of y ≡ code
    → result-of y ≡ on_done code result zeros → (answer-of x ≡ code) × (answer-of x ≡ done → result-of x ≡ result)
told answer-of result-of y code result zeros e en er =
    let n = ap answer-of e ∙ en in
    (n, λ z. ap result-of e ∙ er ∙ rw (sym n ∙ z))

-- a number that is in the table is that of its refusal
pub number_result : {A : Type 0} (n : ℕ) (x : A) → ltb n 12 ≡ true → number_of (result_of n x) ≡ n
number_result zero x h = refl
number_result (suc zero) x h = refl
number_result (suc (suc zero)) x h = refl
number_result (suc (suc (suc zero))) x h = refl
number_result (suc (suc (suc (suc zero)))) x h = refl
number_result (suc (suc (suc (suc (suc zero))))) x h = refl
number_result (suc (suc (suc (suc (suc (suc zero)))))) x h = refl
number_result (suc (suc (suc (suc (suc (suc (suc zero))))))) x h = refl
number_result (suc (suc (suc (suc (suc (suc (suc (suc zero)))))))) x h = refl
number_result (suc (suc (suc (suc (suc (suc (suc (suc (suc zero))))))))) x h = refl
number_result (suc (suc (suc (suc (suc (suc (suc (suc (suc (suc zero)))))))))) x h = refl
number_result (suc (suc (suc (suc (suc (suc (suc (suc (suc (suc (suc zero))))))))))) x h = refl
number_result (suc (suc (suc (suc (suc (suc (suc (suc (suc (suc (suc (suc n)))))))))))) x h = absurd (omega (arith, ltb-true (suc (suc (suc (suc (suc (suc (suc (suc (suc (suc (suc (suc n)))))))))))) 12 h))

-- all numbers of these rows are in the table: then so is the one that is answered
abbrev pub listed : List (ℕ × Bool) → Bool
listed [] = true
listed (row ∷ rows) = ltb row.0 12 && listed rows

pub first_listed : (rows : List (ℕ × Bool)) → listed rows ≡ true → ltb (first_of rows) 12 ≡ true
first_listed [] h = refl
first_listed ((n, true) ∷ rows) h = (both (ltb n 12) (listed rows) h).0
first_listed ((n, false) ∷ rows) h = first_listed rows (both (ltb n 12) (listed rows) h).1

pub number_first : {A : Type 0} (rows : List (ℕ × Bool)) (x : A) → listed rows ≡ true → number_of (result_of (first_of rows) x) ≡ first_of rows
number_first rows x h = number_result (first_of rows) x (first_listed rows h)

-- the values of what is answered: the result where no row applies, and otherwise what a refusal has there
pub value_result : {A : Type 0} (n : ℕ) (x zeros : A) → value_of zeros (result_of n x) ≡ on_done n x zeros
value_result zero x zeros = refl
value_result (suc n) x zeros = refl

-- a result says that its number is 0 and which result it is, and a refusal that its number is not 0
pub ok_only : {A : Type 0} {y : A} (n : ℕ) (x : A) → result_of n x ≡ Ok y → (n ≡ done) × (x ≡ y)
ok_only zero x h = (refl, ap (value_of x) h)
ok_only (suc n) x h = absurd (false≢true (ap is_ok h))

pub err_only : {A : Type 0} {e : Refusal} (n : ℕ) (x : A) → result_of n x ≡ Err e → n ≡ done → ⊥
err_only zero x h z = true≢false (ap is_ok h)
err_only (suc n) x h z = suc-ne-zero n z

-- a refusal is the same whatever was to be answered
pub err_same : {A B : Type 0} {e : Refusal} (n : ℕ) (x : A) (y : B) → result_of n x ≡ Err e → result_of n y ≡ Err e
err_same zero x y h = absurd (true≢false (ap is_ok h))
err_same (suc n) x y h = ap (err_or (get_or refusals_in_order n Waiting)) h
  where
    err_or : {A B : Type 0} → Refusal → Result A Refusal → Result B Refusal
    err_or d (Ok x) = Err d
    err_or d (Err e) = Err e

-- the refusal of the rows in front is that of them all, and their result leaves it to those behind them
pub err_first : {A B : Type 0} {e : Refusal} (rows rest : List (ℕ × Bool)) (x : A) (y : B) → result_of (first_of rows) x ≡ Err e
    → result_of (first_of (rows ++ rest)) y ≡ Err e
err_first rows rest x y h = rw (rows_stop rows rest (err_only (first_of rows) x h)) (err_same (first_of rows) x y h)

pub ok_first : {A B : Type 0} {z : A} (rows rest : List (ℕ × Bool)) (x : A) (y : B) → refusals rows ≡ true → result_of (first_of rows) x ≡ Ok z
    → result_of (first_of (rows ++ rest)) y ≡ result_of (first_of rest) y
ok_first rows rest x y all h = rw (rows_pass rows rest all (ok_only (first_of rows) x h).0)

-- what a lent buffer holds behind a result, and behind a refusal
pub ok_done : {A B : Type 0} {y : A} (n : ℕ) (x : A) (result kept : B) → result_of n x ≡ Ok y → on_done n result kept ≡ result
ok_done zero x result kept h = refl
ok_done (suc n) x result kept h = absurd (false≢true (ap is_ok h))

pub err_done : {A B : Type 0} {e : Refusal} (n : ℕ) (x : A) (result kept : B) → result_of n x ≡ Err e → on_done n result kept ≡ kept
err_done zero x result kept h = absurd (true≢false (ap is_ok h))
err_done (suc n) x result kept h = refl
