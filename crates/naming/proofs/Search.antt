-- Laws of a search over name rows.
use Prim.Native.Nat.{ℕ, suc, ◌+◌, ◌-◌, ◌≤◌, ◌<◌}
use mathlib.Core.Path.{◌≡◌, refl, sym, ap, ◌∙◌}
use mathlib.Core.List.{List, [], ◌∷◌}
use mathlib.Core.Option.{some, none}
use mathlib.Core.Bool.{true, false}
use native.Mathlib.Omega.{arith}
use native.Mathlib.Numerals.{add-one}
use lib.Dec.{ltb, eqb}
use lib.ListN.{length, get_or, take, drop, length-drop, drop_of_length-le}
use lib.Seq.{drop-cons, get_or-take, length-take-le}
use borrow.Author.Tests.{ltb-true, ltb-false, eq-eqb, ne_eqb}
use Rattle.model.specs.declared.Name.{Name}
use Rattle.model.specs.Store.{moments, is_called, called, any, zero_name}
use Rattle.model.proofs.Base.{case}
use Rattle.rows.specs.Rows.{name_rows_of, NamesIn}
use Rattle.rows.proofs.Laws.{name_count}
use Rattle.naming.specs.Naming.{index_of}

-- the counted rows are there
pub name_room : (n : ℕ) (nt : List ℕ) → NamesIn n nt → n ≤ length (name_rows_of nt)
name_room n nt h = omega (arith, name_count nt)

-- the first n rows from i on, by the row there
module _ (nt : List ℕ) (n i : ℕ) (room : NamesIn n nt) where
  pub next_name : i < n → drop i (take n (name_rows_of nt)) ≡ get_or (name_rows_of nt) i zero_name ∷ drop (i + 1) (take n (name_rows_of nt))
  next_name h =
      let l : i < length (take n (name_rows_of nt)) = rw (length-take-le n (name_rows_of nt) (name_room n nt room)) h in
      rw (add-one i)
      (drop-cons (take n (name_rows_of nt)) i zero_name l
      ∙ ap (λ (x : Name). x ∷ drop (suc i) (take n (name_rows_of nt))) (get_or-take n (name_rows_of nt) i zero_name h))

  pub no_name : n ≤ i → drop i (take n (name_rows_of nt)) ≡ []
  no_name h =
      drop_of_length-le (take n (name_rows_of nt)) {i = i} (omega (arith, length-take-le n (name_rows_of nt) (name_room n nt room)))

  -- where a name stands
  module _ (high low : ℕ) where
    pub index_hit : i < n → is_called high low (get_or (name_rows_of nt) i zero_name) ≡ true → index_of high low (drop i (take n (name_rows_of nt))) ≡ 0
    unfolding index_of
    index_hit l h = rw (next_name l, h)

    pub index_miss : i < n → is_called high low (get_or (name_rows_of nt) i zero_name) ≡ false
        → index_of high low (drop i (take n (name_rows_of nt))) ≡ index_of high low (drop (i + 1) (take n (name_rows_of nt))) + 1
    unfolding index_of
    index_miss l h = rw (next_name l, h) (omega arith)

    pub index_none : n ≤ i → index_of high low (drop i (take n (name_rows_of nt))) ≡ 0
    unfolding index_of
    index_none l = rw (no_name l)

  -- whether a moment is named
  module _ (m : ℕ) where
    pub named_hit : i < n → (get_or (name_rows_of nt) i zero_name).moment ≡ m → any (λ t. eqb t m) (moments (drop i (take n (name_rows_of nt)))) ≡ true
    unfolding any
    named_hit l h = rw (next_name l, eq-eqb _ _ h)

    pub named_miss : i < n → ((get_or (name_rows_of nt) i zero_name).moment ≡ m → ⊥)
        → any (λ t. eqb t m) (moments (drop i (take n (name_rows_of nt)))) ≡ any (λ t. eqb t m) (moments (drop (i + 1) (take n (name_rows_of nt))))
    unfolding any
    named_miss l h = rw (next_name l, ne_eqb _ _ h)

    pub named_none : n ≤ i → any (λ t. eqb t m) (moments (drop i (take n (name_rows_of nt)))) ≡ false
    unfolding any
    named_none l = rw (no_name l)

-- where a name stands, in any rows
module _ (high low : ℕ) where
  -- a name that stands in a row: it is given, and called so is that row
  pub index_in : (ns : List Name) → index_of high low ns < length ns
      → (any (is_called high low) ns ≡ true) × (called high low ns ≡ some (get_or ns (index_of high low ns) zero_name))
  unfolding any called index_of
  index_in [] h = absurd (omega arith)
  index_in (n ∷ ns) h =
      case (is_called high low n)
      (λ e. rw e (refl, refl))
      (λ e.
      let h' : suc (index_of high low ns) < suc (length ns) = rw e at h in
      rw e (index_in ns (omega arith)))

  -- a name that stands in none
  pub index_out : (ns : List Name) → length ns ≤ index_of high low ns → (any (is_called high low) ns ≡ false) × (called high low ns ≡ none)
  unfolding any called index_of
  index_out [] h = (refl, refl)
  index_out (n ∷ ns) h =
      case (is_called high low n)
      (λ e. let h' : suc (length ns) ≤ 0 = rw e at h in absurd (omega arith))
      (λ e.
      let h' : suc (length ns) ≤ suc (index_of high low ns) = rw e at h in
      rw e (index_out ns (omega arith)))

  -- the first row that has the name is one of the n, or none has it
  pub any_index : (nt : List ℕ) (from n : ℕ) → from ≤ n → NamesIn n nt
      → any (is_called high low) (drop from (take n (name_rows_of nt))) ≡ ltb (from + index_of high low (drop from (take n (name_rows_of nt)))) n
  any_index nt from n h room =
      let ns : List Name = drop from (take n (name_rows_of nt)) in
      let l : length ns ≡ n - from =
      length-drop from (take n (name_rows_of nt)) ∙ ap (λ (k : ℕ). k - from) (length-take-le n (name_rows_of nt) (name_room n nt room)) in
      let at : ℕ = from + index_of high low ns in
      case (ltb at n)
      (λ d. (index_in ns (omega (arith, l, ltb-true at n d))).0 ∙ sym d)
      (λ d. (index_out ns (omega (arith, l, ltb-false at n d))).0 ∙ sym d)
