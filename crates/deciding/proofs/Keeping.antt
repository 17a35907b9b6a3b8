-- The laws of the marks of a reclaim.
use mathlib.Core.Path.{◌≡◌, refl, ap, sym, ◌∙◌}
use mathlib.Core.Logic.{◌⊎◌, inl, inr}
use mathlib.Core.List.{List, [], ◌∷◌, ◌++◌, map, append_assoc, append-nil}
use mathlib.Core.Bool.{Bool, true, false, ◌&&◌, ◌||◌}
use Prim.Native.Nat.{ℕ, zero, suc, ◌+◌, ◌-◌, ◌≤◌, ◌<◌}
use native.Mathlib.Omega.{arith}
use native.Mathlib.Nat.{add-zero, add-suc}
use native.Mathlib.Numerals.{add-one}
use lib.Dec.{leb, ltb, eqb}
use lib.ListN.{length, get_or, set, take, length-set, length-map}
use lib.Seq.{get_or-set_other, take-suc-set, length-take-le}
use borrow.Author.Tests.{leb-true, ltb-true, ltb-false, eqb-true, eqb-false, le-leb, lt-ltb, le-ltb}
use Rattle.std.specs.List.{list_all, range_with_len}
use Rattle.std.proofs.lemmas.List.{map-id}
use Rattle.std.proofs.lemmas.List.FromFn.{map-range_with_len_more}
use Rattle.std.proofs.lemmas.List.Folds.{list_all-append}
use Rattle.model.specs.declared.Branch.{Branch}
use Rattle.model.specs.declared.Record.{Record}
use Rattle.model.specs.declared.Name.{Name}
use Rattle.model.specs.Store.{zero_branch, moments, keep, any, ◌∈◌}
use Rattle.model.specs.Lookup.{holds, is_at}
use Rattle.model.proofs.Base.{case, and→, mem_append}
use Rattle.model.specs.ByNumber.{find, candidates, deciding, branch, entry, name_row, newest_of, held, Line}
use Rattle.model.proofs.Ancestry.{→holds}
use Rattle.model.proofs.ByNumber.{top, any_yes}
use Rattle.branch_marks.specs.Marks.{Filled, Held, bit}
use Rattle.branch_marks.proofs.Staying.{names_more}
use Rattle.record_marks.specs.Marks.{given_row}
use Rattle.deciding.specs.Deciding.{none_older, given, kept_record, young_too, Started, Behind}

-- the first r numbers are the moments that decide a reclaim to the floor m with these named ones
pub record Deciding (bs : List Branch) (n m : ℕ) (named : List ℕ) (r : ℕ) (table : List ℕ) : Type 0 where
  pub within : r ≤ length table
  pub few : r ≤ n + 1 + length named
  pub moments : take r table ≡ deciding named m (newest_of bs n)

-- the starts above the floor
abbrev pub starts : ℕ → List Branch → List ℕ
starts m bs = map (λ (b : Branch). b.start) (keep (λ (b : Branch). ltb m b.start) bs)

starts_skip : (m : ℕ) (b : Branch) (bs : List Branch) → b.start ≤ m → starts m (b ∷ bs) ≡ starts m bs
unfolding keep
starts_skip m b bs l = rw (le-ltb m b.start l)

starts_take : (m : ℕ) (b : Branch) (bs : List Branch) → m < b.start → starts m (b ∷ bs) ≡ b.start ∷ starts m bs
unfolding keep
starts_take m b bs l = rw (lt-ltb m b.start l)

starts_none : (m : ℕ) → starts m [] ≡ []
unfolding keep
starts_none m = refl

-- what the rows below i have yet to give
pub record Gathering (bs : List Branch) (n m i c : ℕ) (old table : List ℕ) : Type 0 where
  pub left : i ≤ n
  pub room : c + i ≤ n + 1
  pub some : 0 < c
  pub long : length table ≡ length old
  pub rest : (k : ℕ) → c ≤ k → get_or table k 0 ≡ get_or old k 0
  pub whole : candidates m (newest_of bs n) ≡ take c table ++ starts m (newest_of bs i)

first_one : (old : List ℕ) (m : ℕ) → 0 < length old → take 1 (set old 0 m) ≡ m ∷ []
first_one [] m l = absurd (omega arith)
first_one (x ∷ old) m l = refl

pub gather_start : (bs : List Branch) (n m : ℕ) (old : List ℕ) → 0 < length old → Gathering bs n m n 1 (set old 0 m) (set old 0 m)
gather_start bs n m old l =
    record { left = omega arith; room = omega arith; some = omega arith; long = refl; rest = λ k a. refl; whole = rw (first_one old m l) }

module _ {bs : List Branch} {n m i c : ℕ} {old table : List ℕ} (g : Gathering bs n m i c old table) (z : 0 < i) (rows : n ≤ length bs) where
  open_row : newest_of bs i ≡ branch bs (i - 1) ∷ newest_of bs (i - 1)
  open_row = let e : i ≡ suc (i - 1) = omega arith in ap (newest_of bs) e ∙ top bs (i - 1) zero_branch (omega (arith, g.left))

  -- the row before i starts at the floor or below it
  pub gather_old : (branch bs (i - 1)).start ≤ m → Gathering bs n m (i - 1) c old table
  gather_old l =
      record {
        left = omega (arith, g.left);
        room = omega (arith, g.room);
        some = g.some;
        long = g.long;
        rest = g.rest;
        whole = g.whole ∙ ap (λ (x : List ℕ). take c table ++ x) skip;
      }
    where
      skip : starts m (newest_of bs i) ≡ starts m (newest_of bs (i - 1))
      skip = ap (starts m) open_row ∙ starts_skip m (branch bs (i - 1)) (newest_of bs (i - 1)) l

  -- it starts above the floor
  pub gather_new : {v : ℕ} → v ≡ (branch bs (i - 1)).start → m < (branch bs (i - 1)).start → n < length old → Gathering bs n m (i - 1) (c + 1) old (set table c v)
  gather_new {v} e l r =
      record {
        left = omega (arith, g.left);
        room = omega (arith, g.room);
        some = omega arith;
        long = length-set table c v ∙ g.long;
        rest = λ k a. get_or-set_other table c k v 0 (λ q. omega arith) ∙ g.rest k (omega arith);
        whole = g.whole ∙ (ap (λ (x : List ℕ). take c table ++ x) more ∙ sym put);
      }
    where
      more : starts m (newest_of bs i) ≡ v ∷ starts m (newest_of bs (i - 1))
      more = ap (starts m) open_row ∙ (starts_take m (branch bs (i - 1)) (newest_of bs (i - 1)) l ∙ ap (λ (x : ℕ). x ∷ starts m (newest_of bs (i - 1))) (sym e))

      put : take (c + 1) (set table c v) ++ starts m (newest_of bs (i - 1)) ≡ take c table ++ (v ∷ starts m (newest_of bs (i - 1)))
      put =
          let s : c + 1 ≡ suc c = omega arith in
          ap (λ (x : ℕ). take x (set table c v) ++ starts m (newest_of bs (i - 1))) s
          ∙ (ap (λ (x : List ℕ). x ++ starts m (newest_of bs (i - 1))) (take-suc-set table c v (omega (arith, g.room, g.long)))
          ∙ append_assoc (take c table) (v ∷ []) (starts m (newest_of bs (i - 1))))

pub gather_end : {bs : List Branch} {n m i c : ℕ} {old table : List ℕ} → Gathering bs n m i c (set old 0 m) table → i ≤ 0 → n < length old → Started bs n m c old table
gather_end {bs} {n} {m} {i} {c} {old} {table} g l r =
    let e : i ≡ 0 = omega arith in
    let z : length table ≡ length old = g.long ∙ length-set old 0 m in
    record { within = omega (arith, g.room); few = omega (arith, g.room); rest = λ k a. g.rest k a ∙ get_or-set_other old 0 k m 0 (λ q. omega (arith, g.some)); long = z; moments = sym (g.whole ∙ (ap (λ (x : ℕ). take c table ++ starts m (newest_of bs x)) e ∙ nothing_more)) }
  where
    nothing_more : take c table ++ starts m (newest_of bs 0) ≡ take c table
    nothing_more = ap (λ (x : List ℕ). take c table ++ x) (starts_none m) ∙ append-nil (take c table)

-- the moments of the first names: how many they are, and one after the other
pub count_named : (ns : List Name) (k : ℕ) → k ≤ length ns → length (moments (take k ns)) ≡ k
count_named ns k l = length-map (take k ns) (λ (n : Name). n.moment) ∙ length-take-le k ns l

pub behind_start : (ns : List Name) (c : ℕ) (old : List ℕ) → Behind (moments (take 0 ns)) c (c + 0) old old
behind_start ns c old = record { count = refl; first = rw (add-zero c) (sym (append-nil (take c old))); rest = λ k l. refl; long = refl }

pub behind_step : (ns : List Name) (c j : ℕ) {v : ℕ} {old table : List ℕ} → Behind (moments (take j ns)) c (c + j) old table → j < length ns → c + j < length old → v ≡ (name_row ns j).moment
    → Behind (moments (take (j + 1) ns)) c (c + (j + 1)) old (set table (c + j) v)
behind_step ns c j {v} {old} {table} b l r e =
    record {
      count = omega (arith, count_named ns (j + 1) (omega arith));
      first =
          rw (add-one j, add-suc c j)
          (take-suc-set table (c + j) v (omega (arith, b.long))
          ∙ (ap (λ (x : List ℕ). x ++ (v ∷ [])) b.first
          ∙ (append_assoc (take c old) (moments (take j ns)) (v ∷ []) ∙ ap (λ (x : List ℕ). take c old ++ x) (sym more))));
      rest = λ k a. get_or-set_other table (c + j) k v 0 (λ q. omega arith) ∙ b.rest k (omega arith);
      long = length-set table (c + j) v ∙ b.long;
    }
  where
    more : moments (take (suc j) ns) ≡ moments (take j ns) ++ (v ∷ [])
    more = names_more ns j l ∙ ap (λ (x : ℕ). moments (take j ns) ++ (x ∷ [])) (sym e)

-- starts, and names behind them
pub both_listed : {bs : List Branch} {n m c r : ℕ} {named old mid table : List ℕ} → Started bs n m c old mid → Behind named c r mid table → r ≤ length old → Deciding bs n m named r table
both_listed {bs} {n} {m} {c} {r} {named} {old} {mid} {table} s b l =
    let z : length table ≡ length old = b.long ∙ s.long in
    record { within = omega arith; few = omega (arith, s.few, b.count); moments = b.first ∙ ap (λ (x : List ℕ). x ++ named) s.moments }

-- the moments that decide are held
row_held : (bs : List Branch) (n t i : ℕ) → n ≤ length bs → i < n → (branch bs i).start ≤ t → t ≤ (branch bs i).end → held bs n t ≡ true
unfolding held
row_held bs n t i room l a b = any_yes (λ d. holds d t) bs zero_branch n i room l (→holds (branch bs i) t a b)

start_row : (bs : List Branch) (k m t : ℕ) → k ≤ length bs → t ∈ starts m (newest_of bs k) → (i : ℕ) × (i < k) × (t ≡ (branch bs i).start)
start_row bs zero m t l x = absurd (rw (starts_none m) at x)
start_row bs (suc k) m t l x =
    let more : t ∈ starts m (newest_of bs k) → (i : ℕ) × (i < suc k) × (t ≡ (branch bs i).start) =
    λ y. let r = start_row bs k m t (omega arith) y in (r.0, omega (arith, r.1), r.2) in
    let x' : t ∈ starts m (branch bs k ∷ newest_of bs k) = rw (top bs k zero_branch (omega arith)) at x in
    case (ltb m (branch bs k).start)
    (λ d.
    let x'' : (t ≡ (branch bs k).start) ⊎ (t ∈ starts m (newest_of bs k)) = rw (starts_take m (branch bs k) (newest_of bs k) (ltb-true m (branch bs k).start d)) at x' in
    elim x'' [ inl e ↦ (k, omega arith, e) | inr y ↦ more y ])
    (λ d. more (rw (starts_skip m (branch bs k) (newest_of bs k) (ltb-false m (branch bs k).start d)) at x'))

pub deciding_held : {bs : List Branch} {n m r : ℕ} {named table : List ℕ} → Line bs n → n ≤ length bs → held bs n m ≡ true → Held bs n named → Deciding bs n m named r table
    → Held bs n (take r table)
deciding_held {bs} {n} {m} {r} {named} {table} h room hm hn d =
    record {
      each =
          λ t i.
          elim (mem_append t (candidates m (newest_of bs n)) named (rw d.moments at i)) [
            | inl (inl e) ↦ rw e hm
            | inl (inr x) ↦ (let s = start_row bs n m t room x in rw s.2 (start_held s.0 s.1))
            | inr x ↦ hn.each t x
          ];
    }
  where
    start_held : (i : ℕ) → i < n → held bs n (branch bs i).start ≡ true
    start_held i l = row_held bs n (branch bs i).start i room l (omega arith) (h.stairs.ordered i l)

-- a byte of the marks with the young ones
young_or : (rs : List Record) (m : ℕ) (mid : List ℕ) (k : ℕ) (x : Bool) → get_or mid k 0 ≡ bit x → young_too rs m mid k ≡ bit (leb m (entry rs k).moment || x)
young_or rs m mid k x e = case (leb m (entry rs k).moment) (λ d. rw d) (λ d. rw d e)

row_byte : (bs : List Branch) (n : ℕ) (rs : List Record) (nr m k : ℕ) (named ts : List ℕ) → ts ≡ deciding named m (newest_of bs n)
    → given_row bs n rs nr ts k ≡ bit (any (λ t. is_at (entry rs k).moment (find (take nr rs) (entry rs k).address (newest_of bs n) t)) (deciding named m (newest_of bs n)))
unfolding given_row
row_byte bs n rs nr m k named ts e = rw e

kept_byte : (bs : List Branch) (n : ℕ) (rs : List Record) (nr m k : ℕ) (named : List ℕ)
    → bit (leb m (entry rs k).moment || any (λ t. is_at (entry rs k).moment (find (take nr rs) (entry rs k).address (newest_of bs n) t)) (deciding named m (newest_of bs n))) ≡ kept_record bs n rs nr m named k
unfolding given
kept_byte bs n rs nr m k named = refl

pub kept_all : {bs : List Branch} {n : ℕ} (rs : List Record) {nr m r : ℕ} {named table old mid new : List ℕ} → Deciding bs n m named r table
    → Filled (given_row bs n rs nr (take r table)) nr old mid → Filled (young_too rs m mid) nr mid new → Filled (kept_record bs n rs nr m named) nr old new
kept_all {bs} {n} rs {nr} {m} {r} {named} {table} {old} {mid} {new} d f g =
    record {
      first = λ k l. g.first k l ∙ byte k l;
      rest = λ k l. g.rest k l ∙ f.rest k l;
      long = g.long ∙ f.long;
    }
  where
    byte : (k : ℕ) → k < nr → young_too rs m mid k ≡ kept_record bs n rs nr m named k
    byte k l = young_or rs m mid k (any (λ t. is_at (entry rs k).moment (find (take nr rs) (entry rs k).address (newest_of bs n) t)) (deciding named m (newest_of bs n))) (f.first k l ∙ row_byte bs n rs nr m k named (take r table) d.moments) ∙ kept_byte bs n rs nr m k named

-- where none is older, all are kept
pub none_older→ : (rs : List Record) (m n : ℕ) → none_older rs m n ≡ true → (k : ℕ) → k < n → m ≤ (entry rs k).moment
unfolding none_older
none_older→ rs m zero e k l = absurd (omega arith)
none_older→ rs m (suc n) e k l =
    let both = and→ (leb m (entry rs n).moment) (none_older rs m n) e in
    case (eqb k n)
    (λ d. rw (eqb-true k n d) (leb-true m (entry rs n).moment both.0))
    (λ d. let ne : k ≡ n → ⊥ = eqb-false k n d in none_older→ rs m n both.1 k (omega arith))

and_last : (a b : Bool) → (a && (b && true)) ≡ (b && a)
and_last true true = refl
and_last true false = refl
and_last false true = refl
and_last false false = refl

-- the same, from the first record on
pub all_young : (rs : List Record) (m n : ℕ) → list_all (λ k. leb m (entry rs k).moment) (range_with_len 0 n) ≡ none_older rs m n
unfolding none_older
all_young rs m zero = refl
all_young rs m (suc n) =
    let young = λ (k : ℕ). leb m (entry rs k).moment in
    let more : range_with_len 0 (n + 1) ≡ range_with_len 0 n ++ (n ∷ []) = simp map-id at (map-range_with_len_more (λ (k : ℕ). k) 0 n n (omega arith)) in
    ap (λ (k : ℕ). list_all young (range_with_len 0 k)) (sym (add-one n))
    ∙ (ap (list_all young) more ∙ (list_all-append young (range_with_len 0 n) (n ∷ []) ∙ rw (all_young rs m n) (and_last (none_older rs m n) (young n))))

pub kept_young : (bs : List Branch) (n : ℕ) (rs : List Record) (m : ℕ) (named : List ℕ) {nr : ℕ} {old new : List ℕ} → none_older rs m nr ≡ true
    → Filled (young_too rs m old) nr old new → Filled (kept_record bs n rs nr m named) nr old new
unfolding given
kept_young bs n rs m named {nr} e f =
    record {
      first = λ k l. let y = le-leb m (entry rs k).moment (none_older→ rs m nr e k l) in f.first k l ∙ rw y;
      rest = f.rest;
      long = f.long;
    }
