-- Laws of readable moments, and of the two requests on names.
use Prim.Native.Nat.{ℕ, ◌+◌, ◌≤◌, ◌<◌}
use mathlib.Core.Path.{◌≡◌, sym, ap, ◌∙◌}
use mathlib.Core.List.{List}
use mathlib.Core.Option.{some}
use mathlib.Core.Bool.{Bool, true, false, not}
use native.Mathlib.Omega.{arith}
use lib.ListN.{length, get_or, take, drop}
use lib.Seq.{get_or-take, length-take-le}
use borrow.Author.Tests.{le-leb, lt-leb}
use Rattle.model.specs.declared.Head.{Head}
use Rattle.model.specs.declared.Name.{Name}
use Rattle.model.specs.Store.{names, is_called, called, without, any, zero_name}
use Rattle.model.specs.Lookup.{readable}
use Rattle.model.specs.Wire.{give, withdraw}
use Rattle.model.specs.Step.{do_give, do_withdraw, step}
use Rattle.model.specs.ByNumber.{Sound}
use Rattle.model.proofs.Base.{length_keep}
use Rattle.rows.specs.declared.Outcome.{Outcome}
use Rattle.rows.specs.Rows.{name_rows_of, NameSet, NamesIn, NamesLaid}
use Rattle.rows.specs.View.{Tables, with_names, store_of, record_given, Carried, refused_with, accepted_with}
use Rattle.rows.proofs.Laws.{branch_kind, record_kind, name_kind, name_count}
use Rattle.rows.proofs.Relaid.{laid_own, laid_rows, own_then, set_length, set_rows, set_own}
use Rattle.rows.proofs.View.{Within, within_own, carried}
use Rattle.closing.specs.Closed.{keep_by}
use Rattle.closing.proofs.Closing.{keep_by_keep, Going, going_start, going_end, going_next, going_drop, going_keep}
use Rattle.naming.specs.Naming.{index_of, with_count, ClosedNames}
use Rattle.naming.proofs.Search.{name_room, index_in, index_out}

-- names can be given and withdrawn on a sound store
pub sound_nameable : (head : Head) (t : Tables) → Sound (store_of head t) → (head.names ≤ 32) × NamesIn 32 t.names
sound_nameable head t s = (s.sizes.names_counted, omega (arith, s.sizes.allowed.name_rows, name_count t.names))

-- a name table alone changed
names_within : (nt nt' : List ℕ) (t : Tables) → NamesLaid nt (name_rows_of nt') nt' → Within (with_names nt t) (with_names nt' t)
names_within nt nt' t e = record { branches = laid_own branch_kind t.branches; records = laid_own record_kind t.records; names = e }

-- which rows stay, by their number
abbrev pub stays : ℕ → ℕ → List Name → ℕ → Bool
stays high low rows i = not (is_called high low (get_or rows i zero_name))

pub stays_without : (high low n : ℕ) (rows : List Name) → n ≤ length rows → keep_by (stays high low rows) (take n rows) ≡ without high low (take n rows)
stays_without high low n rows l =
    keep_by_keep (stays high low rows) (λ x. not (is_called high low x)) zero_name (take n rows)
    (λ i h. ap (λ (x : Name). not (is_called high low x)) (sym (get_or-take n rows i zero_name (rw (length-take-le n rows l) at h))))

-- how far the names of nt have closed up in nt': the first i of n rows are done, and w of them are kept
pub record ClosingNames (high low n : ℕ) (nt nt' : List ℕ) (i w : ℕ) : Type 0 where
  pub going : Going zero_name (stays high low (name_rows_of nt)) (name_rows_of nt) (name_rows_of nt') n i w
  pub laid : NamesLaid nt (name_rows_of nt') nt'

module _ {high low n : ℕ} {nt : List ℕ} where
  pub names_start : ClosingNames high low n nt nt 0 0
  names_start = record { going = going_start; laid = laid_own name_kind nt }

  module _ {nt' : List ℕ} {i w : ℕ} (c : ClosingNames high low n nt nt' i w) (room : NamesIn n nt) where
    pub names_end : n ≤ i → ClosedNames high low n nt nt' w
    names_end l =
        let g = going_end c.going l in
        let e = stays_without high low n (name_rows_of nt) (name_room n nt room) in
        record { table = rw (g.0, e) at c.laid; count = rw e at g.1 }

    -- the row i is read as x, and becomes zero
    module _ (long : length nt' ≡ length nt) (l : i < n) {x : Name} (e : x ≡ get_or (name_rows_of nt') i zero_name) {blank : List ℕ} (z : NameSet nt' i zero_name blank) where
      told : is_called high low x ≡ is_called high low (get_or (name_rows_of nt) i zero_name)
      told = ap (is_called high low) (e ∙ going_next c.going (name_room n nt room) l)

      blanked : NamesLaid nt (name_rows_of blank) blank
      blanked = own_then name_kind c.laid long (set_own name_kind z)

      pub names_drop : is_called high low x ≡ true → ClosingNames high low n nt blank (i + 1) w
      names_drop h = record { going = going_drop c.going (name_room n nt room) l (ap not (sym told ∙ h)) (set_rows name_kind z); laid = blanked }

      pub names_keep : is_called high low x ≡ false → {nt'' : List ℕ} → NameSet blank w x nt'' → ClosingNames high low n nt nt'' (i + 1) (w + 1)
      names_keep h {nt''} y =
          record {
            going = going_keep c.going (name_room n nt room) l (ap not (sym told ∙ h)) e (set_rows name_kind z) (set_rows name_kind y);
            laid = own_then name_kind blanked (set_length name_kind z ∙ long) (set_own name_kind y);
          }

-- what is left is no more than there was
pub count_names : {high low n : ℕ} {nt nt' : List ℕ} {w : ℕ} → ClosedNames high low n nt nt' w → NamesIn n nt → w ≤ n
count_names {high} {low} {n} {nt} c l =
    omega (arith, c.count, length_keep (λ x. not (is_called high low x)) (take n (name_rows_of nt)), length-take-le n (name_rows_of nt) (name_room n nt l))

-- giving a name, test by test; `ok` is whether its moment can be read, `twice` whether a row has the name
module _ (head : Head) (nt : List ℕ) (n : Name) (ok : Bool) (o : (t : Tables) → ok ≡ readable (store_of head (with_names nt t)) n.moment) where
  abbrev pub Gives : Outcome → List ℕ → Type 0
  Gives r nt' = (t : Tables) → Carried head (with_names nt t) (give n) r (with_names nt' t)

  pub give_low : (r : Outcome) → r ≡ refused_with head 8 → ok ≡ false → Gives r nt
  unfolding step do_give record_given
  give_low r e f t = carried head (with_names nt t) (give n) (rw (e, sym (o t) ∙ f)) (rw e) (within_own (with_names nt t))

  module _ (f : ok ≡ true) where
    pub give_open : (r : Outcome) → r ≡ refused_with head 9 → head.now ≤ n.moment → Gives r nt
    unfolding step do_give record_given
    give_open r e i t = carried head (with_names nt t) (give n) (rw (e, sym (o t) ∙ f, le-leb _ _ i)) (rw e) (within_own (with_names nt t))

    module _ (i : n.moment < head.now) (twice : Bool) (told : twice ≡ any (is_called n.high n.low) (drop 0 (take head.names (name_rows_of nt)))) where
      pub give_twice : (r : Outcome) → r ≡ refused_with head 15 → twice ≡ true → Gives r nt
      unfolding step do_give record_given names
      give_twice r e j t =
          let u : any (is_called n.high n.low) (take head.names (name_rows_of nt)) ≡ true = sym told ∙ j in
          carried head (with_names nt t) (give n) (rw (e, sym (o t) ∙ f, lt-leb _ _ i, u)) (rw e) (within_own (with_names nt t))

      module _ (j : twice ≡ false) where
        unused : any (is_called n.high n.low) (take head.names (name_rows_of nt)) ≡ false
        unused = sym told ∙ j

        pub give_full : (r : Outcome) → r ≡ refused_with head 16 → 32 ≤ head.names → Gives r nt
        unfolding step do_give record_given names
        give_full r e k t =
            carried head (with_names nt t) (give n) (rw (e, sym (o t) ∙ f, lt-leb _ _ i, unused, le-leb _ _ k)) (rw e) (within_own (with_names nt t))

        pub give_done : (r : Outcome) (nt' : List ℕ) → r ≡ accepted_with (with_count head (head.names + 1)) n.moment → head.names < 32
            → NameSet nt head.names n nt' → Gives r nt'
        unfolding step do_give record_given names
        give_done r nt' e k p t =
            carried head (with_names nt t) (give n) (rw (e, sym (o t) ∙ f, lt-leb _ _ i, unused, lt-leb _ _ k, set_rows name_kind p)) (rw e)
            (names_within nt nt' t (set_own name_kind p))

-- withdrawing a name; `at` is where it stands
module _ (head : Head) (nt : List ℕ) (high low : ℕ) (room : NamesIn head.names nt) (at : ℕ)
    (found : at ≡ 0 + index_of high low (drop 0 (take head.names (name_rows_of nt))))
  where
    abbrev pub Withdraws : Outcome → List ℕ → Type 0
    Withdraws r nt' = (t : Tables) → Carried head (with_names nt t) (withdraw high low) r (with_names nt' t)

    abbrev rows : List Name
    rows = take head.names (name_rows_of nt)

    counted : length rows ≡ head.names
    counted = length-take-le head.names (name_rows_of nt) (name_room head.names nt room)

    pub withdraw_none : (r : Outcome) → r ≡ refused_with head 17 → head.names ≤ at → Withdraws r nt
    unfolding step do_withdraw record_given names
    withdraw_none r e j t =
        carried head (with_names nt t) (withdraw high low) (rw (e, (index_out high low rows (omega (arith, counted, found))).1)) (rw e) (within_own (with_names nt t))

    pub withdraw_done : (r : Outcome) (nt' : List ℕ) (x : Name) (w : ℕ) → x ≡ get_or (name_rows_of nt) at zero_name → at < head.names
        → ClosedNames high low head.names nt nt' w → length nt' ≡ length nt → r ≡ accepted_with (with_count head w) x.moment → Withdraws r nt'
    unfolding step do_withdraw record_given names
    withdraw_done r nt' x w g j k l e t =
        let i : index_of high low rows < length rows = omega (arith, counted, found) in
        let h : get_or rows (index_of high low rows) zero_name ≡ x =
        ap (λ (y : ℕ). get_or rows y zero_name) (omega (arith, found)) ∙ get_or-take head.names (name_rows_of nt) at zero_name j ∙ sym g in
        let c : called high low rows ≡ some x = (index_in high low rows i).1 ∙ ap (λ (y : Name). some y) h in
        let q = laid_rows name_kind k.table l in
        carried head (with_names nt t) (withdraw high low) (rw (e, c, q, k.count)) (rw e) (names_within nt nt' t (rw q k.table))
