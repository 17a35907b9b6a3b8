-- The laws of the marks of the rows that stay.
use mathlib.Core.Path.{◌≡◌, refl, ap, ◌∙◌}
use mathlib.Core.List.{List, [], ◌∷◌, ◌++◌, map-append, append-nil}
use mathlib.Core.Bool.{Bool, true, false, cond, ◌||◌}
use Prim.Native.Nat.{ℕ, suc, ◌+◌, ◌≤◌, ◌<◌}
use native.Mathlib.Omega.{arith}
use native.Mathlib.Numerals.{add-one}
use lib.Dec.{leb, ltb, eqb}
use lib.ListN.{length, get_or, set, take}
use lib.Seq.{take-suc, length-take-le, get_or-take}
use borrow.Author.Tests.{leb-false, ltb-false, eq-eqb, ne_eqb, lt-ltb, le-ltb}
use Rattle.model.specs.declared.Branch.{Branch}
use Rattle.model.specs.declared.Record.{Record}
use Rattle.model.specs.declared.Name.{Name}
use Rattle.model.specs.Store.{zero_record, zero_name, moments, keep, any, ◌∈◌}
use Rattle.model.specs.Lookup.{holds}
use Rattle.model.specs.Step.{stays}
use Rattle.model.specs.ByNumber.{branch, entry, name_row, Stairs}
use Rattle.model.proofs.Base.{case, →or₂, any_append, keep_append, mem_map, get_d_mem}
use Rattle.model.proofs.Ancestry.{holds→, →holds}
use Rattle.closing.specs.Closed.{marked, keep_by}
use Rattle.closing.proofs.Closing.{kept_more, kept_less}
use Rattle.branch_marks.specs.Marks.{Holder, Filled, bit, held_too, older_moments, kept_branch}
use Rattle.branch_marks.proofs.Holders.{other_row}
use Rattle.branch_marks.proofs.Marking.{filled_set}

or_no : (a : Bool) → (a || false) ≡ a
or_no true = refl
or_no false = refl

any_snoc : (p : ℕ → Bool) (ts : List ℕ) (t : ℕ) → any p (ts ++ (t ∷ [])) ≡ (any p ts || p t)
unfolding any
any_snoc p ts t = any_append p ts (t ∷ []) ∙ ap (λ (b : Bool). any p ts || b) (case (p t) (λ e. rw e) (λ e. rw e))

-- no moment marks nothing, and one more the row that holds it
pub held_none : (bs : List Branch) {n : ℕ} {ms : List ℕ} → Filled (held_too bs [] ms) n ms ms
unfolding any
held_none bs = record { first = λ k l. refl; rest = λ k l. refl; long = refl }

pub held_more : {bs : List Branch} {n t i : ℕ} {old new : List ℕ} (ts ms : List ℕ) → Stairs bs n → n ≤ length old → Holder bs n t i
    → Filled (held_too bs ts ms) n old new → Filled (held_too bs (ts ++ (t ∷ [])) ms) n old (set new i 1)
held_more {bs} {n} {t} {i} ts ms h room k f =
    let y : holds (branch bs i) t ≡ true = →holds (branch bs i) t k.low k.high in
    filled_set f k.inside room
    (rw (any_snoc (holds (branch bs i)) ts t, →or₂ (any (holds (branch bs i)) ts) y))
    (λ j l ne. rw (any_snoc (holds (branch bs j)) ts t, other_row h t i j k.inside l y ne, or_no (any (holds (branch bs j)) ts)))

-- the moments of the first names, one more
pub names_more : (ns : List Name) (q : ℕ) → q < length ns → moments (take (suc q) ns) ≡ moments (take q ns) ++ ((name_row ns q).moment ∷ [])
names_more ns q l = ap moments (take-suc ns q zero_name l) ∙ map-append (λ (n : Name). n.moment) (take q ns) (name_row ns q ∷ [])

pub name_step : {bs : List Branch} {n i : ℕ} {old new : List ℕ} (ns : List Name) (q : ℕ) (ms : List ℕ) → q < length ns → Stairs bs n → n ≤ length old
    → {v : Name} → v ≡ name_row ns q → Holder bs n v.moment i
    → Filled (held_too bs (moments (take q ns)) ms) n old new → Filled (held_too bs (moments (take (q + 1) ns)) ms) n old (set new i 1)
name_step {bs} {n} {i} ns q ms l h room e k f =
    let k' : Holder bs n (name_row ns q).moment i = rw e at k in
    rw (add-one q, names_more ns q l) (held_more (moments (take q ns)) ms h room k' f)

pub name_in : (ns : List Name) (k q : ℕ) → q < k → k ≤ length ns → (name_row ns q).moment ∈ moments (take k ns)
name_in ns k q l room =
    mem_map (λ (n : Name). n.moment) (name_row ns q) (take k ns)
    (rw (get_or-take k ns q zero_name l) at (get_d_mem (take k ns) q zero_name (omega (arith, length-take-le k ns room))))

-- those of the first kept records that are older than the floor
module _ (floor : ℕ) (kept : List ℕ) (rs : List Record) (j : ℕ) (l : j < length rs) where
  abbrev up_to : ℕ → List ℕ
  up_to i = older_moments floor (keep_by (marked kept) (take i rs))

  pub older_gone : (get_or kept j 0 ≡ 1 → ⊥) → up_to (j + 1) ≡ up_to j
  older_gone e = rw (add-one j) (ap (older_moments floor) (kept_less zero_record (marked kept) rs j l (ne_eqb (get_or kept j 0) 1 e)))

  older_one : get_or kept j 0 ≡ 1 → up_to (j + 1) ≡ up_to j ++ older_moments floor (entry rs j ∷ [])
  older_one e =
      rw (add-one j, kept_more zero_record (marked kept) rs j l (eq-eqb (get_or kept j 0) 1 e), keep_append (λ r. ltb r.moment floor) (keep_by (marked kept) (take j rs)) (entry rs j ∷ []))
      (map-append (λ (r : Record). r.moment) (keep (λ r. ltb r.moment floor) (keep_by (marked kept) (take j rs))) (keep (λ r. ltb r.moment floor) (entry rs j ∷ [])))

  pub older_young : get_or kept j 0 ≡ 1 → floor ≤ (entry rs j).moment → up_to (j + 1) ≡ up_to j
  unfolding keep
  older_young e a = older_one e ∙ rw (le-ltb (entry rs j).moment floor a) (append-nil (up_to j))

  older_more : get_or kept j 0 ≡ 1 → (entry rs j).moment < floor → up_to (j + 1) ≡ up_to j ++ ((entry rs j).moment ∷ [])
  unfolding keep
  older_more e a = older_one e ∙ rw (lt-ltb (entry rs j).moment floor a)

  pub older_step : {bs : List Branch} {n i : ℕ} {old new : List ℕ} (ms : List ℕ) → get_or kept j 0 ≡ 1 → Stairs bs n → n ≤ length old
      → {r : Record} → r ≡ entry rs j → r.moment < floor → Holder bs n r.moment i
      → Filled (held_too bs (up_to j) ms) n old new → Filled (held_too bs (up_to (j + 1)) ms) n old (set new i 1)
  older_step {bs} {n} {i} ms m h room e a k f =
      let a' : (entry rs j).moment < floor = rw e at a in
      let k' : Holder bs n (entry rs j).moment i = rw e at k in
      rw (older_more m a') (held_more (up_to j) ms h room k' f)

-- in a row that ends below the floor every record is older
older_any : (floor : ℕ) (b : Branch) → b.end < floor → (rs : List Record) → any (holds b) (older_moments floor rs) ≡ any (λ r. holds b r.moment) rs
unfolding any keep
older_any floor b l [] = refl
older_any floor b l (r ∷ rs) =
    let ih : any (holds b) (older_moments floor rs) ≡ any (λ q. holds b q.moment) rs = older_any floor b l rs in
    case (ltb r.moment floor)
    (λ d. rw (d, ih))
    (λ d.
    case (holds b r.moment)
    (λ e. absurd (omega (arith, (holds→ b r.moment e).high, ltb-false r.moment floor d)))
    (λ e. rw (d, e, ih)))

-- first or late, then by names, then by older kept records: what stays
yes_byte : (o n : Bool) → ◌≡◌ {A = ℕ} (cond o 1 (cond n 1 1)) 1
yes_byte true n = refl
yes_byte false true = refl
yes_byte false false = refl

no_byte : (n k : Bool) → cond k 1 (cond n 1 0) ≡ bit (n || k)
no_byte true k = yes_byte k true
no_byte false k = refl

any_byte : (a l n o k : Bool) → (l ≡ false → o ≡ k) → cond o 1 (cond n 1 (bit (a || (l || false)))) ≡ bit (a || (l || (n || k)))
any_byte true l n o k h = yes_byte o n
any_byte false true n o k h = yes_byte o n
any_byte false false n o k h = rw (h refl) (no_byte n k)

stays_byte : (floor : ℕ) (named : List ℕ) (kept : List Record) (b : Branch)
    → cond (any (holds b) (older_moments floor kept)) 1 (cond (any (holds b) named) 1 (bit (stays floor [] [] b))) ≡ bit (stays floor named kept b)
unfolding stays any
stays_byte floor named kept b =
    any_byte (eqb b.start 0) (leb floor b.end) (any (holds b) named) (any (holds b) (older_moments floor kept)) (any (λ r. holds b r.moment) kept)
    (λ d. older_any floor b (leb-false floor b.end d) kept)

pub stays_filled : (bs : List Branch) (floor : ℕ) (named : List ℕ) (kept : List Record) {n : ℕ} {old ends names new : List ℕ}
    → Filled (kept_branch bs floor [] []) n old ends → Filled (held_too bs named ends) n ends names → Filled (held_too bs (older_moments floor kept) names) n names new
    → Filled (kept_branch bs floor named kept) n old new
stays_filled bs floor named kept {n} {old} {ends} {names} {new} f g h =
    record {
      first = λ i l. h.first i l ∙ rw (g.first i l, f.first i l) (stays_byte floor named kept (branch bs i));
      rest = λ i l. h.rest i l ∙ g.rest i l ∙ f.rest i l;
      long = h.long ∙ g.long ∙ f.long;
    }
