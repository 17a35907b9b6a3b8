-- Bytes put at the front of an area, and more behind them.
use Prim.Native.Nat.{ℕ, suc, ◌+◌, ◌-◌, ◌≤◌, ◌<◌}
use mathlib.Core.Path.{◌≡◌, sym, ◌∙◌}
use mathlib.Core.List.{List, [], ◌∷◌, ◌++◌, append-nil, append_assoc}
use native.Mathlib.Omega.{arith}
use native.Mathlib.Nat.{zero-add}
use lib.ListN.{length, take, drop, set, get_or, length-append, length-drop, drop_of_length-le}
use lib.Seq.{take_all, take_at, drop_at, drop-drop, set_split, paste-suc}
use Rattle.wire.specs.Front.{in_front}

pub length_front : (xs area : List ℕ) → length xs ≤ length area → length (in_front xs area) ≡ length area
length_front xs area h = omega (arith, length-append xs (drop (length xs) area), length-drop (length xs) area)

-- i bytes of src are in front, and the next is stored
pub front_next : (src area : List ℕ) (i : ℕ) → i < length src → length src ≤ length area
    → set (take i src ++ drop i area) i (get_or src i 0) ≡ take (suc i) src ++ drop (suc i) area
front_next src area i h l = simp zero-add at (paste-suc area 0 src i 0 (omega arith) h)

-- one byte stored
pub front_one : (x : ℕ) (area : List ℕ) → 0 < length area → set area 0 x ≡ in_front (x ∷ []) area
front_one x area h = set_split area 0 x h

-- k bytes are in front; a part from there on is lent, and comes back with ys in front
module _ (xs ys area now back : List ℕ) (k : ℕ) (size : length xs ≡ k) (e : now ≡ in_front xs area)
    (f : back ≡ in_front ys (take (length now - k) (drop k now)))
  where
    pub front_then : take k now ++ (back ++ drop (length now - k) (drop k now)) ≡ in_front (xs ++ ys) area
    front_then =
        let h : length (drop k now) ≤ length now - k = omega (arith, length-drop k now) in
        let t : take k now ≡ xs = rw e (take_at xs (drop (length xs) area) k size) in
        let d : drop k now ≡ drop (length xs) area = rw e (drop_at xs (drop (length xs) area) k size) in
        let p : take (length now - k) (drop k now) ≡ drop (length xs) area = take_all (length now - k) (drop k now) h ∙ d in
        let z : drop (length now - k) (drop k now) ≡ [] = drop_of_length-le (drop k now) h in
        let b : back ≡ ys ++ drop (length xs + length ys) area = f ∙ rw (p, drop-drop (length ys) (length xs) area) in
        rw (t, z, append-nil back, b, length-append xs ys) (sym (append_assoc xs ys (drop (length xs + length ys) area)))
