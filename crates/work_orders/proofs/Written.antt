-- The list of work orders as it is written, and read back.
use Prim.Native.Nat.{ℕ, zero, suc, ◌+◌, ◌*◌, ◌≤◌, ◌<◌}
use mathlib.Core.Path.{◌≡◌, refl, sym, ap, ◌∙◌}
use mathlib.Core.Logic.{inl, inr}
use mathlib.Core.List.{List, [], ◌∷◌, ◌++◌, append_assoc, append-nil}
use native.Mathlib.Nat.{mod-eq_of_lt}
use native.Mathlib.Omega.{arith}
use lib.ListN.{length, take, drop, get_or}
use lib.Seq.{take_at, drop_at, drop-drop}
use Rattle.model.specs.declared.Branch.{Branch}
use Rattle.model.specs.Store.{◌∈◌}
use Rattle.model.specs.Lookup.{holds, ancestry}
use Rattle.model.specs.Wire.{number, bytes}
use Rattle.model.specs.ByNumber.{Chain}
use Rattle.model.proofs.Base.{case, get_d_mem}
use Rattle.model.proofs.Packing.{number_bytes, length_bytes}
use Rattle.work_orders.specs.Orders.{way_in, orders_in, order_bytes}
use Rattle.work_orders.proofs.Way.{orders_hold, orders_skip}

pub length_orders : (ws : List ℕ) → length (order_bytes ws) ≡ 2 * length ws
unfolding order_bytes bytes
length_orders [] = refl
length_orders (w ∷ ws) = omega (arith, length_orders ws)

pub orders_append : (ws vs : List ℕ) → order_bytes (ws ++ vs) ≡ order_bytes ws ++ order_bytes vs
unfolding order_bytes
orders_append [] vs = refl
orders_append (w ∷ ws) vs = ap (λ (x : List ℕ). bytes 2 w ++ x) (orders_append ws vs) ∙ sym (append_assoc (bytes 2 w) (order_bytes ws) (order_bytes vs))

pub one_order : (w : ℕ) → order_bytes (w ∷ []) ≡ bytes 2 w
unfolding order_bytes
one_order w = append-nil (bytes 2 w)

-- the two bytes of the work order i
order_at : (ws rest : List ℕ) (i : ℕ) → i < length ws → take 2 (drop (2 * i) (order_bytes ws ++ rest)) ≡ bytes 2 (get_or ws i 0)
unfolding order_bytes
order_at [] rest i h = absurd (omega arith)
order_at (w ∷ ws) rest zero h = ap (take 2) (append_assoc (bytes 2 w) (order_bytes ws) rest) ∙ take_at (bytes 2 w) (order_bytes ws ++ rest) 2 (length_bytes 2 w)
order_at (w ∷ ws) rest (suc i) h =
    let e : 2 * suc i ≡ 2 + 2 * i = omega arith in
    ap (λ (n : ℕ). take 2 (drop n ((bytes 2 w ++ order_bytes ws) ++ rest))) e
    ∙ (ap (take 2) (sym (drop-drop (2 * i) 2 ((bytes 2 w ++ order_bytes ws) ++ rest)))
    ∙ (ap (λ (x : List ℕ). take 2 (drop (2 * i) (drop 2 x))) (append_assoc (bytes 2 w) (order_bytes ws) rest)
    ∙ (ap (λ (x : List ℕ). take 2 (drop (2 * i) x)) (drop_at (bytes 2 w) (order_bytes ws ++ rest) 2 (length_bytes 2 w)) ∙ order_at ws rest i (omega arith))))

-- read back
pub order_read : (ws rest : List ℕ) (i : ℕ) → ((w : ℕ) → w ∈ ws → w ≤ 65535) → i < length ws
    → number 0 (take 2 (drop (2 * i) (order_bytes ws ++ rest))) ≡ get_or ws i 0
order_read ws rest i small h =
    let w : ℕ = get_or ws i 0 in
    let l : w ≤ 65535 = small w (get_d_mem ws i 0 h) in
    let k : w < 65536 = omega arith in
    ap (number 0) (order_at ws rest i h) ∙ (number_bytes 2 0 w ∙ (omega (arith, mod-eq_of_lt k)))

-- no work order on a way is above 65,535
pub orders_small : (floor : ℕ) (bs : List Branch) (t : ℕ) → Chain floor bs → (w : ℕ) → w ∈ orders_in bs t → w ≤ 65535
unfolding orders_in way_in ancestry
orders_small floor [] t h w m = absurd m
orders_small floor (b ∷ []) t h w m =
    case (holds b t)
    (λ e. elim (rw (orders_hold b [] t e) at m) [ inl q ↦ omega (arith, q, h.order) | inr q ↦ absurd q ])
    (λ e. absurd (rw (orders_skip b [] t e) at m))
orders_small floor (b ∷ c ∷ bs) t h w m =
    case (holds b t)
    (λ e. elim (rw (orders_hold b (c ∷ bs) t e) at m) [ inl q ↦ omega (arith, q, h.0.order) | inr q ↦ orders_small floor (c ∷ bs) b.cut h.1 w q ])
    (λ e. orders_small floor (c ∷ bs) t h.1 w (rw (orders_skip b (c ∷ bs) t e) at m))
