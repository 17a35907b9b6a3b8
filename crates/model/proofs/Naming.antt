-- Naming and withdrawing: names change, and with them what is readable, but no snapshot.
use Prim.Native.Nat.{ℕ, suc, ◌+◌, ◌-◌, ◌≤◌, ◌<◌}
use mathlib.Core.Path.{◌≡◌, refl, ap}
use mathlib.Core.Logic.{inl, inr}
use mathlib.Core.List.{List, [], ◌∷◌, ◌++◌}
use mathlib.Core.Option.{some, none}
use mathlib.Core.Bool.{true, false, not, false≢true}
use native.Mathlib.Omega.{arith}
use native.Mathlib.Numerals.{add-one}
use lib.Dec.{leb}
use lib.ListN.{length, take, drop, set, replicate, length-set}
use lib.Seq.{take-append_seam, take-suc-set, length-take-le}
use borrow.Author.Tests.{leb-false}
use Rattle.model.specs.declared.Name.{Name}
use Rattle.model.specs.Store.{Store, branches, newest, records, names, moments, is_called, called, without, any, zero_name, ◌∈◌}
use Rattle.model.specs.Lookup.{lookup, readable}
use Rattle.model.specs.Wire.{give, withdraw, accepted}
use Rattle.model.specs.Step.{Stepped, unchanged, closed_up, with_names, do_give, withdrawn, do_withdraw}
use Rattle.model.specs.Reference.{Snapshot, with_names_of, accept, feed}
use Rattle.model.specs.ByNumber.{Sizes, SoundNames, Sound}
use Rattle.model.proofs.Base.{case, mem_keep, length_keep, mem_map, map_mem, mem_snoc, readable_named, readable_less}
use Rattle.model.proofs.Latest.{case_option}
use Rattle.model.proofs.Names.{names_keep, names_snoc}
use Rattle.model.proofs.Invariant.{Reads, Inv, reference_of}
use Rattle.model.proofs.Moves.{Stepping, refused_step_lem, readable_held}
use Rattle.model.proofs.Reclaiming.{length_closed}

pub length_names : (s : Store) → Sizes s → length (names s) ≡ s.head.names
unfolding names
length_names s z = length-take-le s.head.names s.name_rows (omega arith)

-- what a name that is accepted has: a readable, sealed moment, no row with the name, and a row free
pub record Givable (s : Store) (n : Name) : Type 0 where
  pub low : readable s n.moment ≡ true
  pub sealed : n.moment < s.head.now
  pub new : any (is_called n.high n.low) (names s) ≡ false
  pub room : s.head.names < 32

abbrev pub given : Store → Name → Stepped
given s n = record { store = with_names s (s.head.names + 1) (set s.name_rows s.head.names n); answer = accepted n.moment }

-- what holds of the refusals of naming, and of a name given
pub give_cases : (P : Stepped → Type 0) (s : Store) (n : Name) → ((k : ℕ) → 7 ≤ k → k < 17 → P (unchanged s (suc k))) → (Givable s n → P (given s n)) → P (do_give s n)
unfolding do_give
give_cases P s n g f =
    case (readable s n.moment)
    (λ e₁.
    case (leb s.head.now n.moment)
    (λ e. rw (e₁, e) (g 8 (omega arith) (omega arith)))
    (λ e₂.
    case (any (is_called n.high n.low) (names s))
    (λ e. rw (e₁, e₂, e) (g 14 (omega arith) (omega arith)))
    (λ e₃.
    case (leb 32 s.head.names)
    (λ e. rw (e₁, e₂, e₃, e) (g 15 (omega arith) (omega arith)))
    (λ e₄.
    rw (e₁, e₂, e₃, e₄)
    (f (record { low = e₁; sealed = leb-false s.head.now n.moment e₂; new = e₃; room = leb-false 32 s.head.names e₄ }))))))
    (λ e. rw e (g 7 (omega arith) (omega arith)))

-- what holds of 17, and of a name withdrawn
pub withdraw_cases : (P : Stepped → Type 0) (s : Store) (high low : ℕ) → (called high low (names s) ≡ none → P (unchanged s 17))
    → ((n : Name) → called high low (names s) ≡ some n → P (withdrawn s high low (some n))) → P (do_withdraw s high low)
unfolding do_withdraw
withdraw_cases P s high low g f = case_option (called high low (names s)) (λ e. rw e (g e)) (λ n e. rw e (f n e))

-- other names, of moments that were readable, in as many rows
named_inv : (s : Store) (snaps : ℕ → Snapshot) (count : ℕ) (rows ns : List Name) → Sound s → Reads s snaps → length rows ≡ length s.name_rows → count ≤ 32
    → take count rows ≡ ns → SoundNames s.head.now (newest s) ns → ((n : Name) → n ∈ ns → readable s n.moment ≡ true)
    → Inv (with_names s count rows) (with_names_of (reference_of s snaps) ns)
unfolding names newest branches records lookup
named_inv s snaps count rows ns h r l c e n f =
    let z : Sizes s = h.sizes in
    record {
      sound =
          record {
            sizes = omega arith;
            rows = h.rows;
            names = rw e n;
            ascends = h.ascends;
            fits = h.fits;
            named = h.named;
            in_use = h.in_use;
          };
      now = refl;
      floor = refl;
      names = e;
      held = refl;
      reads = λ a t i j. r a t (readable_less _ _ _ _ t (omega arith) were (rw e at i)) j;
    }
  where
    were : (x : ℕ) → x ∈ moments ns → readable s x ≡ true
    were x m =
        let g : (q : Name) × (q ∈ ns) × (x ≡ q.moment) = map_mem (λ q. q.moment) x ns m in
        rw g.2 (f g.0 g.1)

-- what is named is readable
named_readable : (s : Store) (n : Name) → n ∈ names s → readable s n.moment ≡ true
named_readable s n m = readable_named _ (moments (names s)) n.moment (mem_map (λ q. q.moment) n (names s) m)

given_names : (s : Store) (n : Name) → Sizes s → s.head.names < 32 → take (s.head.names + 1) (set s.name_rows s.head.names n) ≡ names s ++ (n ∷ [])
unfolding names
given_names s n z l = rw (add-one s.head.names) (take-suc-set s.name_rows s.head.names n (omega arith))

pub give_step : (s : Store) (snaps : ℕ → Snapshot) (n : Name) → Sound s → Reads s snaps → Stepping s (reference_of s snaps) (give n) (do_give s n)
unfolding feed accept
give_step s snaps n h r =
    give_cases (Stepping s (reference_of s snaps) (give n)) s n
    (λ k i j. refused_step_lem s snaps h r k (give n) (λ x. absurd (omega arith)))
    (λ (g : Givable s n).
    record {
      inv =
          named_inv s snaps (s.head.names + 1) (set s.name_rows s.head.names n) (names s ++ (n ∷ [])) h r (length-set s.name_rows s.head.names n)
          (omega arith) (given_names s n h.sizes g.room)
          (names_snoc _ _ (names s) n h.names g.new (record { below = g.sealed; held = readable_held s h n.moment g.low (omega arith) }))
          (λ q m. elim (mem_snoc q (names s) n m) [ inl k ↦ named_readable s q k | inr k ↦ rw k g.low ]);
      right = λ x. refl;
      size = refl;
      exact = λ x. absurd (false≢true x);
    })

-- fewer names are counted after a withdrawal
pub fewer_names : (s : Store) (high low : ℕ) → Sizes s → length (without high low (names s)) ≤ s.head.names
fewer_names s high low z = omega (arith, length_keep (λ n. not (is_called high low n)) (names s), length_names s z)

pub withdraw_step : (s : Store) (snaps : ℕ → Snapshot) (high low : ℕ) → Sound s → Reads s snaps → Stepping s (reference_of s snaps) (withdraw high low) (do_withdraw s high low)
unfolding feed accept
withdraw_step s snaps high low h r =
    withdraw_cases (Stepping s (reference_of s snaps) (withdraw high low)) s high low
    (λ e. refused_step_lem s snaps h r 16 (withdraw high low) (λ n d. let z : ◌≡◌ {A = ℕ} 0 1 = cc in absurd (omega arith)))
    (λ n e.
    let l : length ns ≤ s.head.names = fewer_names s high low h.sizes in
    record {
      inv =
          named_inv s snaps (length ns) (closed_up zero_name ns s.head.names s.name_rows) ns h r
          (length_closed zero_name ns s.head.names s.name_rows l (omega (arith, h.sizes.names_counted, h.sizes.allowed.name_rows)))
          (omega (arith, l, h.sizes.names_counted))
          (take-append_seam ns (replicate (s.head.names - length ns) zero_name ++ drop s.head.names s.name_rows))
          (names_keep _ _ _ (names s) h.names)
          (λ q m. named_readable s q (mem_keep (λ n. not (is_called high low n)) q (names s) m).0);
      right = λ q d. let c : n ≡ q = cc in ap (λ (x : Name). accepted x.moment) c;
      size = refl;
      exact = λ x. absurd (false≢true x);
    })
  where
    ns : List Name
    ns = without high low (names s)
