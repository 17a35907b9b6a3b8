-- The laws of the last row that passes a test.
use mathlib.Core.Path.{◌≡◌, refl, ◌∙◌}
use mathlib.Core.List.{List, [], ◌∷◌, ◌++◌}
use mathlib.Core.Option.{some}
use mathlib.Core.Bool.{Bool, true, false, cond}
use Prim.Native.Nat.{ℕ, zero, suc, ◌≤◌, ◌<◌}
use native.Mathlib.Omega.{arith}
use lib.Dec.{eqb}
use lib.ListN.{length, take}
use lib.Seq.{take-suc}
use borrow.Author.Tests.{eqb-true, eqb-false}
use Rattle.model.specs.declared.Record.{Record}
use Rattle.model.specs.Store.{zero_record}
use Rattle.model.specs.Lookup.{within, or_else, latest}
use Rattle.model.proofs.Base.{case}
use Rattle.model.specs.ByNumber.{entry}
use Rattle.spans.specs.Last.{record_no, or_row, last_row}

pub last_none : (p : ℕ → Bool) (n : ℕ) → ((k : ℕ) → k < n → p k ≡ false) → last_row p n ≡ 0
unfolding last_row
last_none p zero h = refl
last_none p (suc n) h = rw (h n (omega arith)) (last_none p n (λ k l. h k (omega arith)))

pub last_cut : (p : ℕ → Bool) (n m : ℕ) → m ≤ n → ((k : ℕ) → m ≤ k → k < n → p k ≡ false) → last_row p n ≡ last_row p m
unfolding last_row
last_cut p zero m l h = let e : m ≡ 0 = omega arith in rw e
last_cut p (suc n) m l h =
    case (eqb m (suc n))
    (λ d. rw (eqb-true m (suc n) d))
    (λ d.
    let ne : m ≡ suc n → ⊥ = eqb-false m (suc n) d in
    rw (h n (omega arith) (omega arith)) (last_cut p n m (omega arith) (λ k a b. h k a (omega arith))))

here : (p : ℕ → Bool) (k : ℕ) → p k ≡ true → last_row p (suc k) ≡ suc k
unfolding last_row
here p k e = rw e

pub last_at : (p : ℕ → Bool) (n k : ℕ) → k < n → p k ≡ true → ((j : ℕ) → k < j → j < n → p j ≡ false) → last_row p n ≡ suc k
last_at p n k l e h = last_cut p n (suc k) l (λ j a b. h j a b) ∙ top
  where
    top : last_row p (suc k) ≡ suc k
    top = here p k e

pub last_same : (p q : ℕ → Bool) (n : ℕ) → ((k : ℕ) → k < n → p k ≡ q k) → last_row p n ≡ last_row q n
unfolding last_row
last_same p q zero h = refl
last_same p q (suc n) h = rw (h n (omega arith), last_same p q n (λ k l. h k (omega arith)))

-- a row number is 0, or of a row below n that passes
pub last_inside : (p : ℕ → Bool) (n : ℕ) → last_row p n ≤ n
unfolding last_row
last_inside p zero = omega arith
last_inside p (suc n) = case (p n) (λ e. rw e (omega arith)) (λ e. rw e (omega (arith, last_inside p n)))

pub last_passes : (p : ℕ → Bool) (n k : ℕ) → last_row p n ≡ suc k → p k ≡ true
unfolding last_row
last_passes p zero k e = absurd (omega arith)
last_passes p (suc n) k e =
    case (p n)
    (λ d. let e' : suc n ≡ suc k = rw d at e in let q : n ≡ k = omega arith in rw q at d)
    (λ d. last_passes p n k (rw d at e))

-- the model's `latest` by row number
latest_snoc : (xs : List Record) (r : Record) (a lo hi : ℕ) → latest (xs ++ (r ∷ [])) a lo hi ≡ cond (within a lo hi r) (some r) (latest xs a lo hi)
unfolding latest
latest_snoc [] r a lo hi = case (within a lo hi r) (λ e. rw e) (λ e. rw e)
latest_snoc (x ∷ xs) r a lo hi =
    rw (latest_snoc xs r a lo hi) (case (within a lo hi r) (λ e. rw e) (λ e. rw e))

pub latest_row : (rs : List Record) (n a lo hi : ℕ) → n ≤ length rs → latest (take n rs) a lo hi ≡ record_no rs (last_row (λ k. within a lo hi (entry rs k)) n)
unfolding latest last_row
latest_row rs zero a lo hi l = refl
latest_row rs (suc n) a lo hi l =
    rw (take-suc rs n zero_record (omega arith), latest_snoc (take n rs) (entry rs n) a lo hi)
    (case (within a lo hi (entry rs n)) (λ e. rw e) (λ e. rw e (latest_row rs n a lo hi (omega arith))))

pub record_no_or : (rs : List Record) (x o : ℕ) → record_no rs (or_row x o) ≡ or_else (record_no rs x) (record_no rs o)
record_no_or rs zero o = refl
record_no_or rs (suc k) o = refl
