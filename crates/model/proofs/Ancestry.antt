-- Laws of branch rows and of ancestries. SoundRows stand newest first.
use Prim.Native.Nat.{ℕ, ◌≤◌, ◌<◌}
use mathlib.Core.Path.{◌≡◌, refl}
use mathlib.Core.Logic.{◌⊎◌, inl, inr}
use mathlib.Core.List.{List, [], ◌∷◌}
use mathlib.Core.Option.{some}
use mathlib.Core.Bool.{true, false, false≢true}
use native.Mathlib.Omega.{arith}
use lib.Dec.{leb}
use borrow.Author.Tests.{leb-true, le-leb}
use Rattle.model.specs.declared.Branch.{Branch}
use Rattle.model.specs.declared.Record.{Record}
use Rattle.model.specs.Store.{any, ◌∈◌}
use Rattle.model.specs.Lookup.{holds, ancestry, or_else, latest, first_found}
use Rattle.model.specs.ByNumber.{Link, Chain, SoundRows, Falls, find}
use Rattle.model.proofs.Base.{case, and→, →and}
use Rattle.model.proofs.Latest.{or_else→, Within, latest→}

pub record Holds (b : Branch) (t : ℕ) : Type 0 where
  pub low : b.start ≤ t
  pub high : t ≤ b.end

pub holds→ : (b : Branch) (t : ℕ) → holds b t ≡ true → Holds b t
unfolding holds
holds→ b t e =
    let p : (leb b.start t ≡ true) × (leb t b.end ≡ true) = and→ _ _ e in
    record { low = leb-true _ _ p.0; high = leb-true _ _ p.1 }

pub →holds : (b : Branch) (t : ℕ) → b.start ≤ t → t ≤ b.end → holds b t ≡ true
unfolding holds
→holds b t l h = →and (le-leb _ _ l) (le-leb _ _ h)

pub not_holds : (b : Branch) (t : ℕ) → t < b.start → holds b t ≡ false
not_holds b t l =
    case (holds b t)
    (λ e.
    let h : Holds b t = holds→ b t e in
    absurd (omega arith))
    (λ e. e)

pub any_cons : (b : Branch) (bs : List Branch) (x : ℕ) → any (λ d. holds d x) (b ∷ bs) ≡ true → (holds b x ≡ true) ⊎ (any (λ d. holds d x) bs ≡ true)
unfolding any
any_cons b bs x e = case (holds b x) (λ d. inl d) (λ d. inr (rw d at e))

pub any_head : (b : Branch) (bs : List Branch) (x : ℕ) → holds b x ≡ true → any (λ d. holds d x) (b ∷ bs) ≡ true
unfolding any
any_head b bs x e = rw e

pub any_tail : (b : Branch) (bs : List Branch) (x : ℕ) → any (λ d. holds d x) bs ≡ true → any (λ d. holds d x) (b ∷ bs) ≡ true
unfolding any
any_tail b bs x e = case (holds b x) (λ d. rw d) (λ d. rw (d, e))

pub chain_of : (floor now : ℕ) (bs : List Branch) → SoundRows floor now bs → Chain floor bs
chain_of floor now [] h = absurd h
chain_of floor now (b ∷ bs) h = h.1

pub chain_ordered : (floor : ℕ) (b : Branch) (bs : List Branch) → Chain floor (b ∷ bs) → b.start ≤ b.end
chain_ordered floor b [] h = h.ordered
chain_ordered floor b (c ∷ bs) h = h.0.ordered

-- what a sound row list holds is at most its newest row's end
pub held_below : (floor : ℕ) (b : Branch) (bs : List Branch) (x : ℕ) → Chain floor (b ∷ bs) → any (λ d. holds d x) (b ∷ bs) ≡ true → x ≤ b.end
unfolding any
held_below floor b [] x h e = case (holds b x) (λ d. (holds→ b x d).high) (λ d. absurd (false≢true (rw d at e)))
held_below floor b (c ∷ bs) x h e =
    elim (any_cons b (c ∷ bs) x e) [
      | inl d ↦ (holds→ b x d).high
      | inr d ↦
          let ih : x ≤ c.end = held_below floor c bs x h.1 d in
          let l : Link floor b c bs = h.0 in
          omega arith
    ]

pub falls : (floor : ℕ) (bs : List Branch) → Chain floor bs → Falls bs
falls floor [] h = absurd h
falls floor (b ∷ []) h = (omega arith, tt)
falls floor (b ∷ c ∷ bs) h =
    let below : b.cut ≤ c.end = held_below floor c bs b.cut h.1 h.0.parent in
    let l : Link floor b c bs = h.0 in
    (omega arith, falls floor (c ∷ bs) h.1)

pub find_hold : (rs : List Record) (a : ℕ) (b : Branch) (bs : List Branch) (t : ℕ) → holds b t ≡ true
    → find rs a (b ∷ bs) t ≡ or_else (latest rs a b.start t) (find rs a bs b.cut)
unfolding ancestry first_found
find_hold rs a b bs t e = rw e

pub find_skip : (rs : List Record) (a : ℕ) (b : Branch) (bs : List Branch) (t : ℕ) → holds b t ≡ false
    → find rs a (b ∷ bs) t ≡ find rs a bs t
unfolding ancestry
find_skip rs a b bs t e = rw e

-- reads up to a moment depend only on what `latest` says up to it
pub find_same : (rs qs : List Record) (a top : ℕ) → ((lo hi : ℕ) → hi ≤ top → latest rs a lo hi ≡ latest qs a lo hi)
    → (bs : List Branch) → Falls bs → (t : ℕ) → t ≤ top → find rs a bs t ≡ find qs a bs t
unfolding ancestry first_found
find_same rs qs a top h [] f t l = refl
find_same rs qs a top h (b ∷ bs) f t l =
    case (holds b t)
    (λ e.
    let i : Holds b t = holds→ b t e in
    rw (e, h b.start t l, find_same rs qs a top h bs f.1 b.cut (omega arith)))
    (λ e. rw e (find_same rs qs a top h bs f.1 t l))

pub record Found (rs : List Record) (a t : ℕ) (bs : List Branch) (r : Record) : Type 0 where
  pub counted : r ∈ rs
  pub at : r.address ≡ a
  pub up_to : r.moment ≤ t
  pub held : any (λ d. holds d r.moment) bs ≡ true

pub find→ : (rs : List Record) (a : ℕ) (bs : List Branch) → Falls bs → (t : ℕ) (r : Record) → find rs a bs t ≡ some r → Found rs a t bs r
unfolding ancestry first_found
find→ rs a [] f t r e = let z : ◌≡◌ {A = ℕ} 0 1 = cc in absurd (omega arith)
find→ rs a (b ∷ bs) f t r e =
    case (holds b t)
    (λ d.
    let i : Holds b t = holds→ b t d in
    elim (or_else→ (latest rs a b.start t) (find rs a bs b.cut) r (rw d at e)) [
      | inl p ↦
          let l : (r ∈ rs) × Within a b.start t r = latest→ rs a b.start t r p in
          record {
            counted = l.0;
            at = l.1.at;
            up_to = l.1.high;
            held = any_head b bs r.moment (→holds b r.moment l.1.low (omega (arith, l.1)));
          }
      | inr p ↦
          let ih : Found rs a b.cut bs r = find→ rs a bs f.1 b.cut r p in
          record { counted = ih.counted; at = ih.at; up_to = omega (arith, ih.up_to); held = any_tail b bs r.moment ih.held }
    ])
    (λ d.
    let ih : Found rs a t bs r = find→ rs a bs f.1 t r (rw d at e) in
    record { counted = ih.counted; at = ih.at; up_to = ih.up_to; held = any_tail b bs r.moment ih.held })

pub record Below (b d : Branch) : Type 0 where
  pub ordered : d.start ≤ d.end
  pub below : d.end < b.start

-- earlier rows end before a row starts
pub earlier_below : (floor : ℕ) (b : Branch) (bs : List Branch) (d : Branch) → Chain floor (b ∷ bs) → d ∈ bs → Below b d
earlier_below floor b [] d h x'' = elim x'' [ ]
earlier_below floor b (c ∷ bs) d h (inl e) =
    let o : c.start ≤ c.end = chain_ordered floor c bs h.1 in
    let l : Link floor b c bs = h.0 in
    rw e (record { ordered = o; below = l.after })
earlier_below floor b (c ∷ bs) d h (inr m) =
    let ih : Below c d = earlier_below floor c bs d h.1 m in
    let o : c.start ≤ c.end = chain_ordered floor c bs h.1 in
    let l : Link floor b c bs = h.0 in
    record { ordered = ih.ordered; below = omega arith }
