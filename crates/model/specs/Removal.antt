-- Change request Four, what a reclaim does to branches, row by row (proofs/Removal), and a second time (proofs/Again).
use Rattle.std.specs.Prelude.{ℕ, ◌≤◌, ◌≡◌, List, [], ◌∷◌, map, Bool, true, cond, not, eqb}
use Rattle.model.specs.declared.Branch.{Branch}
use Rattle.model.specs.Store.{Store, branches, records, names, moments, keep, open_end, zero_branch, ◌∈◌}
use Rattle.model.specs.Lookup.{holds, is_given}
use Rattle.model.specs.Soundness.{table_check}
use Rattle.model.specs.Wire.{reclaim, accepted}
use Rattle.model.specs.Step.{stays, with_cut, step}

-- the branch that starts at x
unfoldable pub starting_at : List Branch → ℕ → Branch
starting_at [] x = zero_branch
starting_at (b ∷ bs) x = cond (eqb b.start x) b (starting_at bs x)

-- a branch where d goes: a child of d, whose cut d holds, takes over d's cut
abbrev pub takes_over : Branch → Branch → Branch
takes_over d b = cond (holds d b.cut) (with_cut b d.cut) b

-- "Where a row goes, each child takes over its cut": the rows without the one that starts at x
unfoldable pub removed : List Branch → ℕ → List Branch
removed bs x = map (takes_over (starting_at bs x)) (keep (λ b. not (eqb b.start x)) bs)

-- rows removed one after the other
unfoldable pub removed_all : List Branch → List ℕ → List Branch
removed_all bs [] = bs
removed_all bs (x ∷ xs) = removed_all (removed bs x) xs

-- a counted branch goes in a reclaim to m
abbrev pub goes : Store → ℕ → Branch → Bool
goes s m b = not (stays m (moments (names s)) (keep (is_given s m) (records s)) b)

abbrev pub Distinct : List ℕ → Type 0
Distinct [] = Unit {0}
Distinct (x ∷ xs) = (x ∈ xs → ⊥) × Distinct xs

-- the starts of the branches that go, each once, in any order
pub record Order (s : Store) (m : ℕ) (xs : List ℕ) : Type 0 where
  pub once : Distinct xs
  pub gone : (x : ℕ) → x ∈ xs → (b : Branch) × (b ∈ branches s) × (b.start ≡ x) × (goes s m b ≡ true)
  pub all : (b : Branch) → b ∈ branches s → goes s m b ≡ true → b.start ∈ xs

-- a store that passes the table checks, and a moment from its floor to now
pub record Accepts (s : Store) (m : ℕ) : Type 0 where
  pub checked : table_check s ≡ 0
  pub bits : s.head.now ≤ open_end
  pub low : s.head.floor ≤ m
  pub high : m ≤ s.head.now

-- a reclaim leaves what removing rows one by one leaves, in whatever order
abbrev pub AnyOrder : Type 0
AnyOrder = (s : Store) (m : ℕ) (xs : List ℕ) → Accepts s m → Order s m xs → branches (step s (reclaim m)).store ≡ removed_all (branches s) xs

-- a second reclaim to the same floor frees nothing and changes nothing
abbrev pub Again : Type 0
Again =
    (s : Store) (m : ℕ) → Accepts s m
    → step (step s (reclaim m)).store (reclaim m) ≡ record { store = (step s (reclaim m)).store; answer = accepted 0 }
