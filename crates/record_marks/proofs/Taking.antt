-- The table of spans taken, as owners and ends of spans.
use mathlib.Core.Path.{◌≡◌, refl, ap, sym, ◌∙◌}
use mathlib.Core.Bool.{Bool, true, false}
use mathlib.Core.List.{List, [], ◌∷◌, map}
use Prim.Native.Nat.{ℕ, zero, suc, ◌+◌, ◌-◌, ◌*◌, ◌/◌, ◌%◌, ◌≤◌, ◌<◌}
use native.Mathlib.Omega.{arith}
use lib.Dec.{ltb}
use lib.ListN.{length, get_or, set, get_or-map}
use mir.Val.{bool_byte}
use borrow.Author.Tests.{ne_eqb}
use Rattle.model.specs.declared.Branch.{Branch}
use Rattle.model.specs.declared.Record.{Record}
use Rattle.model.specs.ByNumber.{entry, Line, Ascend}
use Rattle.branch_marks.specs.Marks.{bit, Placed}
use Rattle.spans.specs.declared.Span.{Span}
use Rattle.spans.specs.Order.{span_low, span_high, Tree, Sums, Firsts, Spanned}
use Rattle.record_marks.specs.Marks.{address_of, low_of, high_of, taken_number, owner_of, end_of, owners_in, ends_in, Blank, GivenBy, Stopped}
use Rattle.record_marks.proofs.Hopping.{Rows, Hops, Marking, hops_start, marking_start}
use Rattle.record_marks.proofs.Giving.{span_rows, all_given, turn_none, turn_mark, Laying, laying_start, laying_skip, laying_put}

owner_at : (t : List ℕ) (p : ℕ) → get_or (owners_in t) p 0 ≡ owner_of (get_or t p 0)
owner_at t p = get_or-map owner_of t p 0

pub end_at : (t : List ℕ) (p : ℕ) → get_or t p 0 % 4294967296 ≡ get_or (ends_in t) p 0
end_at t p = sym (get_or-map end_of t p 0)

-- who owns a number
pub is_owner : (t : List ℕ) (p a : ℕ) → get_or t p 0 / 4294967296 ≡ a → (get_or t p 0 % 4294967296 ≡ 0 → ⊥) → get_or (owners_in t) p 0 ≡ a + 1
is_owner t p a e z = owner_at t p ∙ rw (ne_eqb (get_or t p 0 % 4294967296) 0 z, e)

pub blank_owners : {t : List ℕ} → Blank t → Blank (owners_in t)
blank_owners {t} b = record { zero = λ k. owner_at t k ∙ ap owner_of (b.zero k) }

-- a number stored
map_set : (f : ℕ → ℕ) (t : List ℕ) (i v : ℕ) → map f (set t i v) ≡ set (map f t) i (f v)
map_set f [] i v = refl
map_set f (x ∷ xs) zero v = refl
map_set f (x ∷ xs) (suc i) v = ap (λ (r : List ℕ). f x ∷ r) (map_set f xs i v)

length-map : (f : ℕ → ℕ) (t : List ℕ) → length (map f t) ≡ length t
length-map f [] = refl
length-map f (x ∷ xs) = ap suc (length-map f xs)

owner_number : (a b : ℕ) → 0 < b → b < 4294967296 → owner_of (taken_number a b) ≡ a + 1
owner_number a b z l =
    let q : (a * 4294967296 + b) % 4294967296 ≡ b = omega arith in
    let d : (a * 4294967296 + b) / 4294967296 ≡ a = omega arith in
    rw (ne_eqb ((a * 4294967296 + b) % 4294967296) 0 (λ (e : (a * 4294967296 + b) % 4294967296 ≡ 0). omega arith), d)

end_number : (a b : ℕ) → b < 4294967296 → end_of (taken_number a b) ≡ b
end_number a b l = omega arith

-- one turn that takes a span, at the row before k
pub turn_take : {A L H : ℕ → ℕ} {nr k : ℕ} (t : List ℕ) → Rows A L H nr → 0 < k → k ≤ nr → Hops A L H nr k (owners_in t) (ends_in t)
    → {old new : List ℕ} → Marking A L H nr k old new → nr ≤ length old → {x lo hi r v : ℕ} → x ≡ A (k - 1) → lo ≡ L (k - 1) → hi ≡ H (k - 1) → lo < hi → hi < 4294967296 → lo < length t
    → Stopped (owners_in t) (ends_in t) (x + 1) lo hi r → v ≡ bit (ltb r hi)
    → Hops A L H nr (k - 1) (owners_in (set t lo (taken_number x hi))) (ends_in (set t lo (taken_number x hi))) × Marking A L H nr (k - 1) old (set new (k - 1) v)
turn_take t h z i hs m room {x} {lo} {hi} {r} {v} b d e l w y s u =
    rw (map_set owner_of t lo (taken_number x hi), map_set end_of t lo (taken_number x hi), owner_number x hi (omega arith) w, end_number x hi w)
    (turn_mark h z i hs m room (ap (λ (q : ℕ). q + 1) b) d e l (rw (length-map owner_of t) y) (rw (length-map end_of t) y) s u)

-- a test as a byte, as the code has it
as_byte : (b : Bool) → bool_byte b ≡ bit b
as_byte true = refl
as_byte false = refl

-- the spans taken and the bytes, with the rows from k on
pub record Turning (bs : List Branch) (n : ℕ) (keys : List ℕ) (ne : ℕ) (sums firsts : List ℕ) (rs : List Record) (nr k : ℕ) (taken₀ taken marks₀ marks : List ℕ) : Type 0 where
  pub hops : Hops (address_of rs) (low_of bs n firsts rs) (high_of bs n keys ne sums firsts rs) nr k (owners_in taken) (ends_in taken)
  pub told : Marking (address_of rs) (low_of bs n firsts rs) (high_of bs n keys ne sums firsts rs) nr k marks₀ marks
  pub laid : Laying (low_of bs n firsts rs) (high_of bs n keys ne sums firsts rs) (λ q. taken_number (address_of rs q) (high_of bs n keys ne sums firsts rs q)) nr k taken₀ taken

pub turning_start : {bs : List Branch} {n : ℕ} {keys : List ℕ} {ne : ℕ} {sums firsts : List ℕ} {rs : List Record} {nr : ℕ} {taken marks : List ℕ} → Blank taken
    → Turning bs n keys ne sums firsts rs nr nr taken taken marks marks
turning_start b = record { hops = hops_start (blank_owners b); told = marking_start; laid = laying_start }

module _ {bs : List Branch} {n : ℕ} {rs : List Record} {nr : ℕ} {keys : List ℕ} {ne : ℕ} {sums firsts : List ℕ} (h : Line bs n) (room : n ≤ length bs) (up : Ascend rs nr) (rows : nr ≤ length rs)
    (pl : Placed bs n rs nr) (tr : Tree bs n keys ne) (su : Sums bs keys ne ne sums) (fi : Firsts bs n keys ne 0 sums firsts) where
  table : Rows (address_of rs) (low_of bs n firsts rs) (high_of bs n keys ne sums firsts rs) nr
  table = span_rows h room up rows pl tr su fi

  pub turning_end : {k : ℕ} {taken₀ taken marks₀ marks : List ℕ} → Turning bs n keys ne sums firsts rs nr k taken₀ taken marks₀ marks → k ≤ 0 → GivenBy bs n rs nr keys ne marks₀ marks
  turning_end {k} t l = let e : k ≡ 0 = omega arith in all_given h room up rows pl tr su fi (rw e at t.told)

  -- the row before k, whose record is r with the span s
  module _ {k : ℕ} {taken₀ taken marks₀ marks : List ℕ} (t : Turning bs n keys ne sums firsts rs nr k taken₀ taken marks₀ marks) (z : 0 < k) (i : k ≤ nr) (long : nr ≤ length marks₀) {r : Record} {s : Span}
      (e : r ≡ entry rs (k - 1)) (sp : Spanned bs n keys ne sums firsts r.moment s) where
    low_is : s.lo ≡ low_of bs n firsts rs (k - 1)
    low_is = sp.low ∙ ap (λ (x : Record). span_low bs n firsts x.moment) e

    high_is : s.hi ≡ high_of bs n keys ne sums firsts rs (k - 1)
    high_is = sp.high ∙ ap (λ (x : Record). span_high bs n keys ne sums firsts x.moment) e

    pub turning_skip : s.hi ≤ s.lo → Turning bs n keys ne sums firsts rs nr (k - 1) taken₀ taken marks₀ (set marks (k - 1) 0)
    turning_skip o =
        let u = turn_none table z i t.hops t.told long low_is high_is o in
        record { hops = u.0; told = u.1; laid = laying_skip t.laid z i low_is high_is o }

    pub turning_take : {p : ℕ} → s.lo < s.hi → s.hi < 4294967296 → s.lo < length taken → Stopped (owners_in taken) (ends_in taken) (r.address + 1) s.lo s.hi p
        → Turning bs n keys ne sums firsts rs nr (k - 1) taken₀ (set taken s.lo (taken_number r.address s.hi)) marks₀ (set marks (k - 1) (bool_byte (ltb p s.hi)))
    turning_take {p} o w y st =
        let a : r.address ≡ address_of rs (k - 1) = ap (λ (x : Record). x.address) e in
        let m = turn_take taken table z i t.hops t.told long a low_is high_is o w y st (as_byte (ltb p s.hi)) in
        record {
          hops = m.0;
          told = m.1;
          laid = laying_put t.laid z i low_is high_is o (ap (λ (x : ℕ). taken_number x s.hi) a ∙ ap (taken_number (address_of rs (k - 1))) high_is);
        }
