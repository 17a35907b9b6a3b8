-- Laws of rows that move by one.
use mathlib.Core.Path.{◌≡◌, refl, ap, ap₂, sym, ◌∙◌}
use mathlib.Core.List.{List, ◌++◌}
use Prim.Native.Nat.{ℕ, ◌+◌, ◌-◌, ◌≤◌, ◌<◌}
use native.Mathlib.Nat.{le_refl}
use native.Mathlib.Decide.{dec_lt}
use native.Mathlib.Omega.{arith}
use lib.ListN.{length, get_or, set, take, drop, length-set, length-drop, take-append-drop}
use lib.Seq.{get_or-set_same, get_or-set_other, get_or-take, get_or-drop, length-take-le, ext_get_or}
use Rattle.model.specs.declared.Record.{Record}
use Rattle.model.specs.Store.{zero_record}
use Rattle.model.specs.Step.{put_in}
use Rattle.model.proofs.Putting.{put_is}

-- the rows k..n of rs stand one further on in us
pub record Moved (rs us : List Record) (n p k : ℕ) : Type 0 where
  pub from : p ≤ k
  pub to : k ≤ n
  pub long : length us ≡ length rs
  pub low : (i : ℕ) → i ≤ k → get_or us i zero_record ≡ get_or rs i zero_record
  pub high : (i : ℕ) → k ≤ i → i < n → get_or us (i + 1) zero_record ≡ get_or rs i zero_record
  pub rest : (i : ℕ) → n < i → get_or us i zero_record ≡ get_or rs i zero_record

pub moved_start : (rs : List Record) (n p : ℕ) → p ≤ n → Moved rs rs n p n
moved_start rs n p h =
    record { from = h; to = le_refl n; long = refl; low = λ i l. refl; high = λ i l m. absurd (omega arith); rest = λ i l. refl }

module _ (rs us vs : List Record) (n p k : ℕ) (w : Moved rs us n p k) (room : n < length rs) where
  pub moved_step : p < k → vs ≡ set us (k - 1 + 1) (get_or us (k - 1) zero_record) → Moved rs vs n p (k - 1)
  moved_step h e =
      let z : k - 1 + 1 ≡ k = omega arith in
      rw (e, z)
      (record {
        from = omega arith;
        to = omega (arith, w.to);
        long = length-set us k _ ∙ w.long;
        low = λ i l. get_or-set_other us k i _ zero_record (omega arith) ∙ w.low i (omega arith);
        high = λ i l m. go i (dec_lt i k) l m;
        rest = λ i l. get_or-set_other us k i _ zero_record (omega (arith, w.to)) ∙ w.rest i l;
      })
    where
      go : (i : ℕ) → Dec (i < k) → k - 1 ≤ i → i < n → get_or (set us k (get_or us (k - 1) zero_record)) (i + 1) zero_record ≡ get_or rs i zero_record
      go i (yes q) l m =
          let a : i + 1 ≡ k = omega arith in
          let b : k - 1 ≡ i = omega arith in
          rw (a, get_or-set_same us k _ zero_record (omega (arith, w.to, w.long)), b) (w.low i (omega arith))
      go i (no q) l m = get_or-set_other us k (i + 1) _ zero_record (omega arith) ∙ w.high i (omega arith) m

  pub moved_counted : (r : Record) → p ≡ k → vs ≡ set us p r → take (n + 1) vs ≡ put_in p r (take n rs)
  moved_counted r z e =
      let lr : length (take n rs) ≡ n = length-take-le n rs (omega arith) in
      let lv : length vs ≡ length rs = ap length e ∙ length-set us p r ∙ w.long in
      let lt : length (take (n + 1) vs) ≡ n + 1 = length-take-le (n + 1) vs (omega arith) in
      put_is (take n rs) p r zero_record (omega (arith, w.to)) (take (n + 1) vs) (omega arith)
      (λ i l. get_or-take (n + 1) vs i zero_record (omega (arith, w.to)) ∙ rw e (get_or-set_other us p i r zero_record (omega arith)) ∙ w.low i (omega arith) ∙ sym (get_or-take n rs i zero_record (omega (arith, w.to))))
      (get_or-take (n + 1) vs p zero_record (omega (arith, w.to)) ∙ rw e (get_or-set_same us p r zero_record (omega (arith, w.to, w.long))))
      (λ i l m. get_or-take (n + 1) vs (i + 1) zero_record (omega arith) ∙ rw e (get_or-set_other us p (i + 1) r zero_record (omega arith)) ∙ w.high i (omega arith) (omega arith) ∙ sym (get_or-take n rs i zero_record (omega arith)))

  pub moved_others : (r : Record) → p ≡ k → vs ≡ set us p r → drop (n + 1) vs ≡ drop (n + 1) rs
  moved_others r z e =
      let lv : length vs ≡ length rs = ap length e ∙ length-set us p r ∙ w.long in
      ext_get_or zero_record (drop (n + 1) vs) (drop (n + 1) rs) (simp length-drop (omega arith))
      (λ i l. get_or-drop (n + 1) vs i zero_record ∙ rw e (get_or-set_other us p (n + 1 + i) r zero_record (omega (arith, w.to))) ∙ w.rest (n + 1 + i) (omega arith) ∙ sym (get_or-drop (n + 1) rs i zero_record))

  pub moved_all : (r : Record) → p ≡ k → vs ≡ set us p r → vs ≡ put_in p r (take n rs) ++ drop (n + 1) rs
  moved_all r z e = sym (take-append-drop (n + 1) vs) ∙ ap₂ (λ (x y : List Record). x ++ y) (moved_counted r z e) (moved_others r z e)
