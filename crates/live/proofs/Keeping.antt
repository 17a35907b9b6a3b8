-- What is kept of a live disk: by the pages of a copying step, and by the requests of a batch.
use Prim.Native.Nat.{ℕ, zero, suc, ◌<◌}
use mathlib.Core.Path.{◌≡◌, refl, ap, subst⁻¹, ◌∙◌}
use mathlib.Core.List.{List, [], ◌∷◌}
use mathlib.Core.Option.{Option, some, none}
use native.Mathlib.Omega.{arith}
use lib.ListN.{length, take, drop}
use lib.Seq.{take-nil}
use Rattle.model.specs.declared.Record.{Record}
use Rattle.model.specs.Store.{Store}
use Rattle.model.specs.Soundness.{table_check}
use Rattle.model.specs.Wire.{Request}
use Rattle.model.specs.Step.{step}
use Rattle.model.specs.Batch.{batch}
use Rattle.model.specs.ByNumber.{Whole}
use Rattle.model.proofs.Keeping as model
use Rattle.live.specs.Live.{LiveDisk, following, played, found_now, brought_as, brought, brought_all, stale}
use Rattle.live.proofs.Stale.{FirstStale, first_stale}
use Rattle.live.proofs.Behind.{asked}

-- the pages of a copying step, one after the other: the first n stale ones
brought_first : (s : Store) (d : LiveDisk) (a : ℕ) (rest : List ℕ) → stale d ≡ a ∷ rest → (a < length d.marks) × (stale (brought s d a) ≡ rest)
unfolding brought
brought_first s d a rest e =
    let f : FirstStale 0 d.marks a rest = first_stale 0 d.marks a rest e in
    let q : f.at ≡ a = omega (arith, f.is) in
    (omega (arith, f.inside), by (found_now s a) (rw q at (f.left 1 refl)) (rw q at (f.left 3 refl)))
  where
    by : (o : Option Record) → stale (brought_as d a s.slab (some (record { address = 0; moment = 0; place = 0 }))) ≡ rest → stale (brought_as d a s.slab none) ≡ rest
        → stale (brought_as d a s.slab o) ≡ rest
    by none x y = y
    by (some r) x y = x

case_list : {C : Type 0} (xs : List ℕ) → (xs ≡ [] → C) → ((y : ℕ) (ys : List ℕ) → xs ≡ y ∷ ys → C) → C
case_list [] f g = f refl
case_list (y ∷ ys) f g = g y ys refl

abbrev copied_pages : Store → LiveDisk → ℕ → LiveDisk
copied_pages s d n = brought_all s d (take n (stale d))

copied_none : (s : Store) (d : LiveDisk) (n : ℕ) → stale d ≡ [] → copied_pages s d n ≡ d
unfolding brought_all
copied_none s d n e = rw (e, take-nil {A = ℕ} n)

copied_more : (s : Store) (d : LiveDisk) (n a : ℕ) (rest : List ℕ) → stale d ≡ a ∷ rest → copied_pages s d (suc n) ≡ copied_pages s (brought s d a) n
unfolding brought_all
copied_more s d n a rest e = rw (e, (brought_first s d a rest e).1)

-- what is left of the stale pages
pub copied_left : (s : Store) (n : ℕ) (d : LiveDisk) → stale (copied_pages s d n) ≡ drop n (stale d)
copied_left s zero d = unfold brought_all in refl
copied_left s (suc n) d =
    case_list (stale d)
    (λ e. ap stale (copied_none s d (suc n) e) ∙ rw e)
    (λ a rest e. ap stale (copied_more s d n a rest e) ∙ (copied_left s n (brought s d a) ∙ rw ((brought_first s d a rest e).1, e)))

-- what each page brought to date keeps is kept by all of them
pub copied_keeps : (s : Store) (P : LiveDisk → Type 0) (n : ℕ) → ((d : LiveDisk) (a : ℕ) → a < length d.marks → P d → P (brought s d a))
    → (d : LiveDisk) → P d → P (copied_pages s d n)
copied_keeps s P zero h d p = unfold brought_all in p
copied_keeps s P (suc n) h d p =
    case_list (stale d)
    (λ e. subst⁻¹ P (copied_none s d (suc n) e) p)
    (λ a rest e. subst⁻¹ P (copied_more s d n a rest e) (copied_keeps s P n h (brought s d a) (h d a (brought_first s d a rest e).0 p)))

-- what each request keeps is kept by a batch
module _ (P : Store → LiveDisk → Type 0) (keeps : (s : Store) (d : LiveDisk) (q : Request) → Whole q → P s d → P (step s q).store (asked s d q)) where
  pub batch_keeps : (s : Store) (d : LiveDisk) (input : List ℕ) (space : ℕ) → table_check s ≡ 0 → P s d
      → P (batch s input space).store (played d (batch s input space).log)
  unfolding played
  batch_keeps = model.batch_keeps (λ d e. following d e.request e.answer.refusal) played (λ d. refl) (λ d e es. refl) P keeps
