-- Laws of names: the names of check 2 as statements, and what a step keeps of them.
use Prim.Native.Nat.{ℕ, ◌≤◌}
use mathlib.Core.Path.{◌≡◌, refl, sym}
use mathlib.Core.Logic.{inl, inr}
use mathlib.Core.List.{List, [], ◌∷◌, ◌++◌}
use mathlib.Core.Bool.{Bool, true, false, not}
use native.Mathlib.Omega.{arith}
use lib.Dec.{ltb, eqb}
use borrow.Author.Tests.{ltb-true, lt-ltb, eqb-true, eq-eqb, not-true}
use Rattle.model.specs.declared.Branch.{Branch}
use Rattle.model.specs.declared.Name.{Name}
use Rattle.model.specs.Store.{is_called, keep, any, ◌∈◌}
use Rattle.model.specs.Lookup.{holds}
use Rattle.model.specs.Soundness.{names_sound}
use Rattle.model.specs.ByNumber.{NameFits, Apart, SoundNames}
use Rattle.model.proofs.Base.{case, and→, →and, any_none, none_any, absurd_test, mem_keep, mem_snoc}

pub →names : (now : ℕ) (bs : List Branch) (ns : List Name) → SoundNames now bs ns → names_sound now bs ns ≡ true
unfolding names_sound
→names now bs [] h = refl
→names now bs (n ∷ ns) h =
    let f : NameFits now bs n = h.fit n (inl refl) in
    let a : not (any (is_called n.high n.low) ns) ≡ true = rw h.apart.0 in
    →and a
    (→and (lt-ltb n.moment now f.below)
    (→and f.held (→names now bs ns (record { apart = h.apart.1; fit = λ q m. h.fit q (inr m) }))))

pub names→ : (now : ℕ) (bs : List Branch) (ns : List Name) → names_sound now bs ns ≡ true → SoundNames now bs ns
unfolding names_sound
names→ now bs [] e = record { apart = tt; fit = λ n m. absurd m }
names→ now bs (n ∷ ns) e =
    let a : (not (any (is_called n.high n.low) ns) ≡ true) × (_ ≡ true) = and→ _ _ e in
    let b : (ltb n.moment now ≡ true) × (_ ≡ true) = and→ _ _ a.1 in
    let c : (any (λ d. holds d n.moment) bs ≡ true) × (names_sound now bs ns ≡ true) = and→ _ _ b.1 in
    let ih : SoundNames now bs ns = names→ now bs ns c.1 in
    record {
      apart = (not-true _ a.0, ih.apart);
      fit = λ q m. elim m [ inl p ↦ rw p (record { below = ltb-true _ _ b.0; held = c.0 }) | inr k ↦ ih.fit q k ];
    }

-- rows and now may change, where named moments stay inside rows
pub names_stay : (now now' : ℕ) (bs bs' : List Branch) (ns : List Name) → now ≤ now'
    → ((n : Name) → n ∈ ns → NameFits now bs n → any (λ b. holds b n.moment) bs' ≡ true) → SoundNames now bs ns → SoundNames now' bs' ns
names_stay now now' bs bs' ns l f h =
    record {
      apart = h.apart;
      fit = λ n m. let g : NameFits now bs n = h.fit n m in record { below = omega arith; held = f n m g };
    }

-- some names withdrawn
apart_keep : (k : Name → Bool) (ns : List Name) → Apart ns → Apart (keep k ns)
unfolding keep
apart_keep k [] h = tt
apart_keep k (n ∷ ns) h =
    let ih : Apart (keep k ns) = apart_keep k ns h.1 in
    case (k n)
    (λ e. rw e
    (any_none (is_called n.high n.low) (keep k ns) (λ q m. none_any (is_called n.high n.low) ns h.0 q (mem_keep k q ns m).0), ih))
    (λ e. rw e ih)

pub names_keep : (now : ℕ) (bs : List Branch) (k : Name → Bool) (ns : List Name) → SoundNames now bs ns → SoundNames now bs (keep k ns)
names_keep now bs k ns h = record { apart = apart_keep k ns h.apart; fit = λ n m. h.fit n (mem_keep k n ns m).0 }

-- one name more
called_both : (n q : Name) → is_called n.high n.low q ≡ true → is_called q.high q.low n ≡ true
unfolding is_called
called_both n q e =
    let p : (eqb q.high n.high ≡ true) × (eqb q.low n.low ≡ true) = and→ _ _ e in
    →and (eq-eqb n.high q.high (sym (eqb-true _ _ p.0))) (eq-eqb n.low q.low (sym (eqb-true _ _ p.1)))

apart_snoc : (ns : List Name) (n : Name) → Apart ns → any (is_called n.high n.low) ns ≡ false → Apart (ns ++ (n ∷ []))
unfolding any
apart_snoc [] n h e = (refl, tt)
apart_snoc (q ∷ ns) n h e = (
  any_none (is_called q.high q.low) (ns ++ (n ∷ []))
      (λ x m. elim (mem_snoc x ns n m) [ inl k ↦ none_any (is_called q.high q.low) ns h.0 x k | inr p ↦ rw p new ]),
  apart_snoc ns n h.1 (any_none (is_called n.high n.low) ns (λ x m. none_any (is_called n.high n.low) (q ∷ ns) e x (inr m))),
)
  where
    new : is_called q.high q.low n ≡ false
    new =
        case (is_called q.high q.low n)
        (λ d. absurd_test (called_both q n d) (none_any (is_called n.high n.low) (q ∷ ns) e q (inl refl)))
        (λ d. d)

pub names_snoc : (now : ℕ) (bs : List Branch) (ns : List Name) (n : Name) → SoundNames now bs ns → any (is_called n.high n.low) ns ≡ false → NameFits now bs n
    → SoundNames now bs (ns ++ (n ∷ []))
names_snoc now bs ns n h e f =
    record { apart = apart_snoc ns n h.apart e; fit = λ q m. elim (mem_snoc q ns n m) [ inl k ↦ h.fit q k | inr p ↦ rw p f ] }
