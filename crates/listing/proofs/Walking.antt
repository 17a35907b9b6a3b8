-- Laws of the walk up the branches that lists work orders, and of the list as it grows.
use Prim.Native.Nat.{ℕ, suc, ◌+◌, ◌-◌, ◌*◌, ◌/◌, ◌%◌, ◌≤◌, ◌<◌}
use mathlib.Core.Path.{◌≡◌, sym, ap, ◌∙◌}
use mathlib.Core.List.{List, [], ◌∷◌, ◌++◌, append-nil}
use mathlib.Core.Bool.{false}
use native.Mathlib.Nat.{div-one}
use native.Mathlib.Numerals.{add-one}
use native.Mathlib.Omega.{arith}
use lib.ListN.{length, take, drop, get_or, length-append, length-drop, take-append-drop}
use lib.Seq.{sets, sets-eq, take_at, drop_at, drop-drop, take-suc, drop-cons, length-take-le}
use Rattle.model.specs.declared.Branch.{Branch}
use Rattle.model.specs.Lookup.{holds, ancestry}
use Rattle.model.specs.Wire.{bytes}
use Rattle.model.specs.ByNumber.{branch, newest_of}
use Rattle.model.proofs.Base.{case}
use Rattle.model.proofs.Packing.{length_bytes}
use Rattle.model.proofs.Ancestry.{Holds, holds→, →holds, not_holds}
use Rattle.rows.specs.Rows.{branch_rows_of, BranchesIn}
use Rattle.rows.proofs.Laws.{branch_count}
use Rattle.holding.proofs.Chain.{top_row}
use Rattle.work_orders.specs.Orders.{way_in, orders_in, order_bytes, listed_in}
use Rattle.work_orders.proofs.Way.{orders_hold, orders_skip}
use Rattle.work_orders.proofs.Written.{length_orders, orders_append, one_order}

-- the row before i, as it was read, of the first n rows of a table
module _ (bt : List ℕ) (n i t : ℕ) (counted : BranchesIn n bt) (within : i ≤ n) (pos : 0 < i) (b : Branch) (read : b ≡ branch (branch_rows_of bt) (i - 1)) where
  abbrev rows : List Branch
  rows = branch_rows_of bt

  top_is : newest_of rows i ≡ b ∷ newest_of rows (i - 1)
  top_is = top_row rows i pos (omega (arith, branch_count bt, counted)) ∙ ap (λ (x : Branch). x ∷ newest_of rows (i - 1)) (sym read)

  -- it does not hold the moment
  pub walk_low : t < b.start → orders_in (newest_of rows i) t ≡ orders_in (newest_of rows (i - 1)) t
  walk_low l = rw top_is (orders_skip b (newest_of rows (i - 1)) t (not_holds b t l))

  pub walk_high : b.end < t → orders_in (newest_of rows i) t ≡ orders_in (newest_of rows (i - 1)) t
  walk_high l =
      let n : holds b t ≡ false = case (holds b t) (λ e. let y : Holds b t = holds→ b t e in absurd (omega (arith, y.high))) (λ e. e) in
      rw top_is (orders_skip b (newest_of rows (i - 1)) t n)

  -- it does: its work order, then those of its cut
  pub walk_on : b.start ≤ t → t ≤ b.end → orders_in (newest_of rows i) t ≡ b.order ∷ orders_in (newest_of rows (i - 1)) b.cut
  walk_on l h = rw top_is (orders_hold b (newest_of rows (i - 1)) t (→holds b t l h))

-- no row is left
pub walked : (rows : List Branch) (i t : ℕ) → i ≡ 0 → orders_in (newest_of rows i) t ≡ []
unfolding orders_in way_in ancestry
walked rows i t z = rw z

-- the two bytes as the code makes them
pub two_bytes : (w : ℕ) → bytes 2 w ≡ w / 256 % 256 ∷ w % 256 ∷ []
unfolding bytes
two_bytes w = rw (div-one w)

-- what is left of a list after its first k
pub left_short : (ws : List ℕ) (k w : ℕ) (rest : List ℕ) → drop k ws ≡ w ∷ rest → suc (k + length rest) ≡ length ws
left_short ws k w rest e = omega (arith, length-drop k ws, ap length e)

pub left_next : (ws : List ℕ) (k w : ℕ) (rest : List ℕ) → drop k ws ≡ w ∷ rest → drop (k + 1) ws ≡ rest
left_next ws k w rest e = sym (drop-drop 1 k ws) ∙ ap (drop 1) e

taken_next : (ws : List ℕ) (k w : ℕ) (rest : List ℕ) → drop k ws ≡ w ∷ rest → take (k + 1) ws ≡ take k ws ++ (w ∷ [])
taken_next ws k w rest e =
    let l : k < length ws = omega (arith, left_short ws k w rest e) in
    let g : get_or ws k 0 ≡ w = ap (λ (x : List ℕ). get_or x 0 0) (sym (drop-cons ws k 0 l) ∙ e) in
    ap (λ (n : ℕ). take n ws) (add-one k) ∙ (take-suc ws k 0 l ∙ ap (λ (x : ℕ). take k ws ++ (x ∷ [])) g)

-- nothing is left: all is taken
pub left_none : (ws : List ℕ) (k : ℕ) → drop k ws ≡ [] → take k ws ≡ ws
left_none ws k e = sym (append-nil (take k ws)) ∙ (ap (λ (x : List ℕ). take k ws ++ x) (sym e) ∙ take-append-drop k ws)

-- one work order more behind the first k
pub listed_more : (ws area : List ℕ) (k w : ℕ) (rest : List ℕ) → drop k ws ≡ w ∷ rest → 2 * length ws ≤ length area
    → sets (listed_in (take k ws) area) (k * 2) (bytes 2 w) ≡ listed_in (take (k + 1) ws) area
listed_more ws area k w rest e l =
    let n : suc (k + length rest) ≡ length ws = left_short ws k w rest e in
    let lk : length (take k ws) ≡ k = length-take-le k ws (omega arith) in
    let ln : length (take (k + 1) ws) ≡ k + 1 = length-take-le (k + 1) ws (omega arith) in
    let front : List ℕ = order_bytes (take k ws) in
    let lf : length front ≡ k * 2 = omega (arith, length_orders (take k ws)) in
    let behind : List ℕ = drop (2 * length (take k ws)) area in
    let lb : length behind ≡ length area - 2 * length (take k ws) = length-drop (2 * length (take k ws)) area in
    let lw : length (bytes 2 w) ≡ 2 = length_bytes 2 w in
    let seam : 2 * length (take k ws) + 2 ≡ 2 * length (take (k + 1) ws) = omega arith in
    let past : drop (k * 2 + length (bytes 2 w)) (front ++ behind) ≡ drop (2 * length (take (k + 1) ws)) area =
    ap (λ (x : ℕ). drop (k * 2 + x) (front ++ behind)) lw
    ∙ (sym (drop-drop 2 (k * 2) (front ++ behind))
    ∙ (ap (drop 2) (drop_at front behind (k * 2) lf)
    ∙ (drop-drop 2 (2 * length (take k ws)) area ∙ ap (λ (x : ℕ). drop x area) seam))) in
    let more : order_bytes (take (k + 1) ws) ≡ front ++ bytes 2 w =
    ap order_bytes (taken_next ws k w rest e) ∙ (orders_append (take k ws) (w ∷ []) ∙ ap (λ (x : List ℕ). front ++ x) (one_order w)) in
    sets-eq (bytes 2 w) (front ++ behind) (k * 2) (omega (arith, length-append front behind))
    ∙ (ap (λ (x : List ℕ). x ++ bytes 2 w ++ drop (k * 2 + length (bytes 2 w)) (front ++ behind)) (take_at front behind (k * 2) lf)
    ∙ (ap (λ (x : List ℕ). front ++ bytes 2 w ++ x) past ∙ ap (λ (x : List ℕ). x ++ drop (2 * length (take (k + 1) ws)) area) (sym more)))
