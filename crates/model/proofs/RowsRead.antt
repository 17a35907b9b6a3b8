-- The rows read, by the number of the row where the reading ends.
use Prim.Native.Nat.{ℕ, zero, suc, ◌+◌, ◌-◌, ◌≤◌, ◌<◌}
use mathlib.Core.Path.{◌≡◌, refl, sym, ap, ◌∙◌}
use mathlib.Core.Logic.{◌⊎◌, inl, inr, ⊎_elim}
use mathlib.Core.List.{List, [], ◌∷◌}
use mathlib.Core.Option.{Option, some, none}
use mathlib.Core.Bool.{Bool, true, false, ◌&&◌, false≢true}
use native.Mathlib.Omega.{arith}
use lib.Dec.{leb}
use lib.ListN.{length, length-take}
use lib.Seq.{length-take-le}
use borrow.Author.Tests.{eq-eqb, leb-true}
use Rattle.model.specs.declared.Record.{Record}
use Rattle.model.specs.Store.{Store, records}
use Rattle.model.specs.Soundness.{between, lent_allowed, counts_allowed, in_range, rows_sound, precedes, ascending, by_itself, placed, used, records_sound, in_order, read_from, rows_read}
use Rattle.model.specs.ByNumber.{entry}
use Rattle.model.specs.RowsRead.{Keeps, FirstBroken, OnlyCount, RowsTold, RowsTell}
use Rattle.model.proofs.Base.{case, and→, →and}
use Rattle.model.proofs.Orders.{check_cases}

module _ (s : Store) where
  -- whether row i of a list keeps the rules, where the list begins at row k behind the row `before`
  abbrev kept : ℕ → Option Record → List Record → ℕ → Bool
  kept k before [] i = true
  kept k before (r ∷ rs) zero = in_order before r && by_itself s k r
  kept k before (r ∷ rs) (suc i) = kept (suc k) (some r) rs i

  abbrev AllKept : ℕ → Option Record → List Record → Type 0
  AllKept k before rs = (i : ℕ) → i < length rs → kept k before rs i ≡ true

  -- the first row that breaks a rule
  record Stop (k : ℕ) (before : Option Record) (rs : List Record) : Type 0 where
    row : ℕ
    inside : row < length rs
    below : (j : ℕ) → j < row → kept k before rs j ≡ true
    breaks : kept k before rs row ≡ false

  all_next : (k : ℕ) (before : Option Record) (r : Record) (rs : List Record) (n : ℕ) → kept k before (r ∷ rs) 0 ≡ true
      → ((j : ℕ) → j < n → kept (suc k) (some r) rs j ≡ true) → (j : ℕ) → j < suc n → kept k before (r ∷ rs) j ≡ true
  all_next k before r rs n e h zero l = e
  all_next k before r rs n e h (suc j) l = h j (omega arith)

  -- there is one, or there is none
  stop_or_none : (k : ℕ) (before : Option Record) (rs : List Record) → Stop k before rs ⊎ AllKept k before rs
  stop_or_none k before [] = inr (λ i l. refl)
  stop_or_none k before (r ∷ rs) =
      case (kept k before (r ∷ rs) 0)
      (λ e.
      elim (stop_or_none (suc k) (some r) rs) [
        | inl p ↦
            inl
            (record { row = suc p.row; inside = omega (arith, p.inside); below = all_next k before r rs p.row e p.below; breaks = p.breaks })
        | inr h ↦ inr (all_next k before r rs (length rs) e h)
      ])
      (λ e. inl (record { row = 0; inside = omega arith; below = λ j l. absurd (omega arith); breaks = e }))

  -- how many rows are read
  read_stop : (k : ℕ) (before : Option Record) (rs : List Record) (i : ℕ) → i < length rs
      → ((j : ℕ) → j < i → kept k before rs j ≡ true) → kept k before rs i ≡ false → read_from s k before rs ≡ suc i
  unfolding read_from
  read_stop k before [] i l h e = absurd (omega arith)
  read_stop k before (r ∷ rs) zero l h e = let f : (in_order before r && by_itself s k r) ≡ false = e in rw f
  read_stop k before (r ∷ rs) (suc i) l h e =
      let f : (in_order before r && by_itself s k r) ≡ true = h 0 (omega arith) in
      rw f (ap suc (read_stop (suc k) (some r) rs i (omega arith) (λ j m. h (suc j) (omega arith)) e))

  read_whole : (k : ℕ) (before : Option Record) (rs : List Record) → AllKept k before rs → read_from s k before rs ≡ length rs
  unfolding read_from
  read_whole k before [] h = refl
  read_whole k before (r ∷ rs) h =
      let f : (in_order before r && by_itself s k r) ≡ true = h 0 (omega arith) in
      rw f (ap suc (read_whole (suc k) (some r) rs (λ j m. h (suc j) (omega arith))))

  -- all rows keep the rules where they ascend and each is sound by itself
  abbrev ascends : Option Record → List Record → Bool
  ascends none rs = ascending rs
  ascends (some q) rs = ascending (q ∷ rs)

  ascends_cons : (before : Option Record) (r : Record) (rs : List Record) → ascends before (r ∷ rs) ≡ (in_order before r && ascends (some r) rs)
  unfolding ascending in_order
  ascends_cons none r rs = refl
  ascends_cons (some q) r rs = refl

  ascends_none : (before : Option Record) → ascends before [] ≡ true
  unfolding ascending
  ascends_none none = refl
  ascends_none (some q) = refl

  sound_kept : (k : ℕ) (before : Option Record) (rs : List Record) → ascends before rs ≡ true → placed s k rs ≡ true → AllKept k before rs
  unfolding placed
  sound_kept k before [] a p = λ i l. refl
  sound_kept k before (r ∷ rs) a p =
      let b : (in_order before r ≡ true) × (ascends (some r) rs ≡ true) = and→ _ _ (sym (ascends_cons before r rs) ∙ a) in
      let q : (by_itself s k r ≡ true) × (placed s (suc k) rs ≡ true) = and→ _ _ p in
      all_next k before r rs (length rs) (→and b.0 q.0) (sound_kept (suc k) (some r) rs b.1 q.1)

  kept_sound : (k : ℕ) (before : Option Record) (rs : List Record) → AllKept k before rs → (ascends before rs ≡ true) × (placed s k rs ≡ true)
  unfolding placed
  kept_sound k before [] h = (ascends_none before, refl)
  kept_sound k before (r ∷ rs) h =
      let f : (in_order before r ≡ true) × (by_itself s k r ≡ true) = and→ _ _ (h 0 (omega arith)) in
      let ih : (ascends (some r) rs ≡ true) × (placed s (suc k) rs ≡ true) = kept_sound (suc k) (some r) rs (λ j m. h (suc j) (omega arith)) in
      (ascends_cons before r rs ∙ →and f.0 ih.0, →and f.1 ih.1)

  -- by the number of the row
  abbrev behind : Option Record → List Record → ℕ → Option Record
  behind before rs zero = before
  behind before rs (suc i) = some (entry rs i)

  behind_next : (r : Record) (rs : List Record) (i : ℕ) → behind (some r) rs i ≡ some (entry (r ∷ rs) i)
  behind_next r rs zero = refl
  behind_next r rs (suc i) = refl

  kept_at : (k : ℕ) (before : Option Record) (rs : List Record) (i : ℕ) → i < length rs
      → kept k before rs i ≡ (in_order (behind before rs i) (entry rs i) && by_itself s (k + i) (entry rs i))
  kept_at k before [] i l = absurd (omega arith)
  kept_at k before (r ∷ rs) zero l = let z : k + 0 ≡ k = omega arith in rw z refl
  kept_at k before (r ∷ rs) (suc i) l =
      let z : suc k + i ≡ k + suc i = omega arith in
      let e : (in_order (behind (some r) rs i) (entry rs i) && by_itself s (suc k + i) (entry rs i)) ≡ (in_order (some (entry (r ∷ rs) i)) (entry rs i) && by_itself s (k + suc i) (entry rs i)) =
      rw (behind_next r rs i, z) refl in
      kept_at (suc k) (some r) rs i (omega arith) ∙ e

  abbrev rs : List Record
  rs = records s

  kept→ : (i : ℕ) → i < length rs → kept 1 none rs i ≡ true → Keeps s i
  unfolding in_order
  kept→ zero l e =
      let p : (true ≡ true) × (by_itself s 1 (entry rs 0) ≡ true) = and→ _ _ (sym (kept_at 1 none rs 0 l) ∙ e) in
      record { alone = p.1; after = λ m. absurd (omega arith) }
  kept→ (suc i) l e =
      let p : (precedes (entry rs i) (entry rs (suc i)) ≡ true) × (by_itself s (1 + suc i) (entry rs (suc i)) ≡ true) = and→ _ _ (sym (kept_at 1 none rs (suc i) l) ∙ e) in
      let y : 1 + suc i ≡ suc (suc i) = omega arith in
      let z : suc i - 1 ≡ i = omega arith in
      record { alone = rw y at p.1; after = λ m. rw z p.0 }

  →kept : (i : ℕ) → i < length rs → Keeps s i → kept 1 none rs i ≡ true
  unfolding in_order
  →kept zero l h = kept_at 1 none rs 0 l ∙ →and refl h.alone
  →kept (suc i) l h =
      let y : 1 + suc i ≡ suc (suc i) = omega arith in
      let z : suc i - 1 ≡ i = omega arith in
      let q : precedes (entry rs i) (entry rs (suc i)) ≡ true = rw z at (h.after (omega arith)) in
      kept_at 1 none rs (suc i) l ∙ →and q (rw y h.alone)

  breaks→ : (i : ℕ) → i < length rs → kept 1 none rs i ≡ false → Keeps s i → ⊥
  breaks→ i l e h = false≢true (sym e ∙ →kept i l h)

  →breaks : (i : ℕ) → i < length rs → (Keeps s i → ⊥) → kept 1 none rs i ≡ false
  →breaks i l h = case (kept 1 none rs i) (λ e. absurd (h (kept→ i l e))) (λ e. e)

  -- every counted row that the table has keeps the rules
  abbrev pub AllKeep : Type 0
  AllKeep = (i : ℕ) → i < length rs → Keeps s i

  pub records_length : s.head.records ≤ length s.record_rows → length rs ≡ s.head.records
  unfolding records
  records_length l = length-take-le s.head.records s.record_rows l

  pub sound_keeps : records_sound s ≡ true → AllKeep
  unfolding records_sound
  sound_keeps e i l =
      let a : (ascending rs ≡ true) × (_ ≡ true) = and→ _ _ e in
      kept→ i l (sound_kept 1 none rs a.0 (and→ _ _ a.1).0 i l)

  pub keeps_sound : AllKeep → used s.place_rows ≡ s.head.records → records_sound s ≡ true
  unfolding records_sound
  keeps_sound h u =
      let p : (ascending rs ≡ true) × (placed s 1 rs ≡ true) = kept_sound 1 none rs (λ i l. →kept i l (h i l)) in
      →and p.0 (→and p.1 (eq-eqb _ _ u))

  pub read_all : AllKeep → read_from s 1 none rs ≡ length rs
  read_all h = read_whole 1 none rs (λ i l. →kept i l (h i l))

  pub read_broken : (i : ℕ) → i < length rs → ((j : ℕ) → j < i → Keeps s j) → (Keeps s i → ⊥) → read_from s 1 none rs ≡ suc i
  read_broken i l h b = read_stop 1 none rs i l (λ j m. →kept j (omega arith) (h j m)) (→breaks i l b)

  -- the rows read where 1 and 2 pass
  abbrev Passed : Type 0
  Passed = (in_range s && rows_sound s) ≡ true

  read_passed : Passed → rows_read s ≡ read_from s 1 none rs
  unfolding rows_read
  read_passed e = rw e

  pub unread : (in_range s && rows_sound s) ≡ false → rows_read s ≡ 0
  unfolding rows_read
  unread e = rw e

  -- as many rows as are counted
  full : Passed → length rs ≡ s.head.records
  unfolding in_range
  full e =
      let a : (in_range s ≡ true) × (rows_sound s ≡ true) = and→ _ _ e in
      let b : (lent_allowed s s.head.size ≡ true) × (counts_allowed s ≡ true) = and→ _ _ a.0 in
      let c : (between 1 (length s.branch_rows) s.head.branches ≡ true) × (_ ≡ true) = and→ _ _ b.1 in
      let d : (leb s.head.records (length s.record_rows) ≡ true) × (_ ≡ true) = and→ _ _ c.1 in
      records_length (leb-true _ _ d.0)

  read_most : read_from s 1 none rs ≤ s.head.records
  unfolding records
  read_most =
      let l : length rs ≤ s.head.records = omega (arith, length-take s.head.records s.record_rows) in
      elim (stop_or_none 1 none rs) [
        | inl p ↦ omega (arith, l, p.inside, read_stop 1 none rs p.row p.inside p.below p.breaks)
        | inr h ↦ omega (arith, l, read_whole 1 none rs h)
      ]

  told_broken : Passed → records_sound s ≡ false → FirstBroken s (rows_read s) ⊎ ((rows_read s ≡ s.head.records) × OnlyCount s)
  told_broken e f =
      elim (stop_or_none 1 none rs) [
        | inl p ↦
            let n : rows_read s ≡ suc p.row = read_passed e ∙ read_stop 1 none rs p.row p.inside p.below p.breaks in
            let z : suc p.row - 1 ≡ p.row = omega arith in
            inl
            (rw n
            (record {
              low = omega arith;
              high = omega (arith, full e, p.inside);
              before = λ i l. kept→ i (omega (arith, p.inside)) (p.below i (omega arith));
              breaks = rw z (breaks→ p.row p.inside p.breaks);
            }))
        | inr h ↦
            let k : AllKeep = λ i l. kept→ i l (h i l) in
            inr (
              read_passed e ∙ (read_all k ∙ full e),
              record { keep = λ i l. k i (omega (arith, full e)); count = λ u. false≢true (sym f ∙ keeps_sound k u) },
            )
      ]

  -- what the number of rows read tells
  told : RowsTold s
  told =
      check_cases s
      (λ p o.
      let z : rows_read s ≡ 0 = unread p in
      record {
        most = omega (arith, z);
        unread = λ _. z;
        passed = λ e. absurd (⊎_elim (λ x. omega (arith, x, e)) (λ x. omega (arith, x, e)) o);
        broken = λ e. absurd (⊎_elim (λ x. omega (arith, x, e)) (λ x. omega (arith, x, e)) o);
      })
      (λ p f t.
      record {
        most = rw (read_passed p) read_most;
        unread = λ o. absurd (⊎_elim (λ x. omega (arith, x, t)) (λ x. omega (arith, x, t)) o);
        passed = λ e. absurd (omega (arith, e, t));
        broken = λ _. told_broken p f;
      })
      (λ p f t.
      record {
        most = rw (read_passed p) read_most;
        unread = λ o. absurd (⊎_elim (λ x. omega (arith, x, t)) (λ x. omega (arith, x, t)) o);
        passed = λ _. read_passed p ∙ (read_all (sound_keeps f) ∙ full p);
        broken = λ e. absurd (omega (arith, e, t));
      })

-- Five
pub rows_tell : RowsTell
rows_tell s = told s
