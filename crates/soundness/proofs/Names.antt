-- Check 2 of the names, row by row.
use mathlib.Core.Path.{◌≡◌}
use mathlib.Core.List.{List, [], ◌∷◌}
use mathlib.Core.Bool.{true, not, ◌&&◌}
use Prim.Native.Nat.{ℕ, zero, suc, ◌+◌, ◌<◌}
use native.Mathlib.Nat.{le_refl}
use lib.Dec.{ltb}
use lib.ListN.{get_or, take, drop}
use Rattle.model.specs.declared.Branch.{Branch}
use Rattle.model.specs.declared.Name.{Name}
use Rattle.model.specs.Store.{is_called, any, zero_name}
use Rattle.model.specs.Lookup.{holds}
use Rattle.model.specs.Soundness.{names_sound}
use Rattle.model.specs.ByNumber.{newest_of, held}
use Rattle.model.proofs.Base.{case, and→}
use Rattle.rows.specs.Rows.{branch_rows_of, name_rows_of, NamesIn}
use Rattle.naming.proofs.Search.{next_name, no_name}

module _ (now : ℕ) (bs : List Branch) where
  abbrev Named : List Name → Type 0
  Named ns = names_sound now bs ns ≡ true

  pub names_end : (nt : List ℕ) (n : ℕ) → NamesIn n nt → Named (drop n (take n (name_rows_of nt)))
  unfolding names_sound
  names_end nt n room = rw (no_name nt n n room (le_refl n))

  -- the moment of the first is below now, and those after it are sound
  first : (n : Name) (ns : List Name) → Named (n ∷ ns) → (ltb n.moment now ≡ true) × Named ns
  unfolding names_sound
  first n ns e =
      let b : (ltb n.moment now ≡ true) × (_ ≡ true) = and→ _ _ (and→ (not (any (is_called n.high n.low) ns)) _ e).1 in
      (b.0, (and→ (any (λ d. holds d n.moment) bs) (names_sound now bs ns) b.1).1)

  -- sound names are sound from each of them on
  pub names_from : (ns : List Name) (i : ℕ) → Named ns → Named (drop i ns)
  names_from ns zero e = e
  names_from [] (suc i) e = e
  names_from (n ∷ ns) (suc i) e = names_from ns i (first n ns e).1

-- the row i of n, where those after it are sound
module _ (now : ℕ) (bt nt : List ℕ) (m n i : ℕ) (room : NamesIn n nt) (l : i < n) where
  abbrev x : Name
  x = get_or (name_rows_of nt) i zero_name

  pub named_on : names_sound now (newest_of (branch_rows_of bt) m) (drop (i + 1) (take n (name_rows_of nt))) ≡ true
      → names_sound now (newest_of (branch_rows_of bt) m) (drop i (take n (name_rows_of nt)))
      ≡ (ltb x.moment now && (not (any (is_called x.high x.low) (drop (i + 1) (take n (name_rows_of nt)))) && held (branch_rows_of bt) m x.moment))
  unfolding names_sound held
  named_on h =
      let branches : List Branch = newest_of (branch_rows_of bt) m in
      let rest : List Name = drop (i + 1) (take n (name_rows_of nt)) in
      let next : drop i (take n (name_rows_of nt)) ≡ x ∷ rest = next_name nt n i room l in
      case (any (is_called x.high x.low) rest)
      (λ g. case (ltb x.moment now) (λ d. rw (next, g, d)) (λ d. rw (next, g, d)))
      (λ g.
      case (ltb x.moment now)
      (λ d. case (any (λ b. holds b x.moment) branches) (λ e. rw (next, g, d, e, h)) (λ e. rw (next, g, d, e)))
      (λ d. rw (next, g, d)))
