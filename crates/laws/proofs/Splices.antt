-- Parts and splices: lengths, elements, a part after a write, writes side by side, a loop that writes.
use mathlib.Core.Path.{◌≡◌, refl, sym, ap, ◌∙◌}
use mathlib.Core.List.{List, [], ◌∷◌, ◌++◌, append_assoc, append-nil}
use mathlib.Core.Logic.{◌⊎◌, ⊎_elim}
use Prim.Native.Nat.{ℕ, ◌+◌, ◌-◌, ◌<◌, ◌≤◌}
use native.Mathlib.Nat.{add-zero, add_assoc}
use native.Mathlib.Omega.{arith}
use native.Mathlib.Numerals.{add-one}
use lib.ListN.{length, get_or, set, take, drop, replicate, length-append, length-take, length-drop, take-append-drop, get_or-append}
use lib.ListN.{length-replicate, replicate-append-replicate, drop_of_length-le}
use lib.Seq.{length-take-le, take_at, drop_at, drop-drop, get_or-append-add, get_or-take, get_or-drop, sets-eq, ext_get_or, take-suc, take_all}
use Rattle.laws.specs.Lists.{part, splice}

module _ (l : List ℕ) (at : ℕ) where
  pub splice-nil : splice l at [] ≡ l
  unfolding splice
  splice-nil = rw (append-nil, add-zero, take-append-drop)

  module _ (v : List ℕ) (fits : at + length v ≤ length l) where
    -- what stands before the end of the write
    head-length : length (take at l ++ v) ≡ at + length v
    head-length = rw (length-append, length-take-le at l (omega arith))

    pub length-splice : length (splice l at v) ≡ length l
    unfolding splice
    length-splice = rw (length-append, head-length, length-drop) (omega arith)

    pub get_or-splice_in : (k : ℕ) → k < length v → get_or (splice l at v) (at + k) 0 ≡ get_or v k 0
    unfolding splice
    get_or-splice_in k h =
        let e : length (take at l) ≡ at = length-take-le at l (omega arith) in
        ap (λ (x : List ℕ). get_or x (at + k) 0) (append_assoc (take at l) v (drop (at + length v) l))
        ∙ ap (λ (i : ℕ). get_or (take at l ++ (v ++ drop (at + length v) l)) (i + k) 0) (sym e)
        ∙ get_or-append-add (take at l) (v ++ drop (at + length v) l) k 0
        ∙ get_or-append v (drop (at + length v) l) 0 k h

    pub get_or-splice_below : (j : ℕ) → j < at → get_or (splice l at v) j 0 ≡ get_or l j 0
    unfolding splice
    get_or-splice_below j h =
        ap (λ (x : List ℕ). get_or x j 0) (append_assoc (take at l) v (drop (at + length v) l))
        ∙ get_or-append (take at l) (v ++ drop (at + length v) l) 0 j (rw (length-take-le at l (omega arith)) h)
        ∙ get_or-take at l j 0 h

    pub get_or-splice_above : (j : ℕ) → at + length v ≤ j → get_or (splice l at v) j 0 ≡ get_or l j 0
    unfolding splice
    get_or-splice_above j h =
        let e : j ≡ length (take at l ++ v) + (j - (at + length v)) = omega (arith, head-length) in
        let f : at + length v + (j - (at + length v)) ≡ j = omega arith in
        ap (λ (i : ℕ). get_or (take at l ++ v ++ drop (at + length v) l) i 0) e
        ∙ get_or-append-add (take at l ++ v) (drop (at + length v) l) (j - (at + length v)) 0
        ∙ get_or-drop (at + length v) l (j - (at + length v)) 0
        ∙ ap (λ (i : ℕ). get_or l i 0) f

    -- the part that was written is what was written
    pub part-splice : part (splice l at v) at (length v) ≡ v
    unfolding splice part
    part-splice =
        ap (λ (x : List ℕ). take (length v) (drop at x)) (append_assoc (take at l) v (drop (at + length v) l))
        ∙ ap (λ (x : List ℕ). take (length v) x) (drop_at (take at l) (v ++ drop (at + length v) l) at (length-take-le at l (omega arith)))
        ∙ take_at v (drop (at + length v) l) (length v) refl

    -- two writes, the second where the first ended, are one
    pub splice-append : (w : List ℕ) → splice (splice l at v) (at + length v) w ≡ splice l at (v ++ w)
    unfolding splice
    splice-append w =
        ap (λ (x : List ℕ). x ++ w ++ drop (at + length v + length w) (take at l ++ v ++ drop (at + length v) l))
        (take_at (take at l ++ v) (drop (at + length v) l) (at + length v) head-length)
        ∙ ap (λ (x : List ℕ). take at l ++ v ++ w ++ x)
        (sym (drop-drop (length w) (at + length v) (take at l ++ v ++ drop (at + length v) l))
        ∙ ap (λ (x : List ℕ). drop (length w) x) (drop_at (take at l ++ v) (drop (at + length v) l) (at + length v) head-length)
        ∙ drop-drop (length w) (at + length v) l
        ∙ ap (λ (i : ℕ). drop i l) (add_assoc at (length v) (length w) ∙ ap (λ (i : ℕ). at + i) (sym (length-append v w))))
        ∙ ap (λ (x : List ℕ). x ++ drop (at + length (v ++ w)) l) (append_assoc (take at l) v w)

    pub splice-next : (m : ℕ) (w : List ℕ) → m ≡ at + length v → splice (splice l at v) m w ≡ splice l at (v ++ w)
    splice-next m w e = rw e (splice-append w)

-- a write after writes: x is what the earlier ones left, y what this one leaves
pub splice-step : (l : List ℕ) (at : ℕ) (v : List ℕ) (x : List ℕ) (m : ℕ) (w y : List ℕ) → x ≡ splice l at v → at + length v ≤ length l
    → m ≡ at + length v → y ≡ splice x m w → y ≡ splice l at (v ++ w)
splice-step l at v x m w y e fits f g = g ∙ ap (λ (z : List ℕ). splice z m w) e ∙ splice-next l at v fits m w f

-- a write over the whole
pub splice_all : (l v : List ℕ) → length v ≡ length l → splice l 0 v ≡ v
unfolding splice
splice_all l v e =
    let f : length l ≤ 0 + length v = omega arith in
    ap (λ (x : List ℕ). v ++ x) (drop_of_length-le l f) ∙ append-nil v

-- one store is a write of one element, two stores side by side a write of two
pub set-one : (l : List ℕ) (i a : ℕ) → i < length l → set l i a ≡ splice l i (a ∷ [])
unfolding splice
set-one l i a h = sets-eq (a ∷ []) l i (omega arith)

pub set-two : (l : List ℕ) (i a b : ℕ) → i + 2 ≤ length l → set (set l i a) (i + 1) b ≡ splice l i (a ∷ b ∷ [])
unfolding splice
set-two l i a b h = rw add-one (sets-eq (a ∷ b ∷ []) l i h)

-- a store after what was written
pub set_next : (l : List ℕ) (at : ℕ) (v : List ℕ) (a : ℕ) → at + length v < length l
    → set (splice l at v) (at + length v) a ≡ splice l at (v ++ (a ∷ []))
set_next l at v a h =
    set-one (splice l at v) (at + length v) a (rw (length-splice l at v (omega arith)) h)
    ∙ splice-append l at v (omega arith) (a ∷ [])

pub length_part : (l : List ℕ) (at n : ℕ) → at + n ≤ length l → length (part l at n) ≡ n
unfolding part
length_part l at n h = rw (length-take, length-drop) (omega arith)

pub get_or-part : (l : List ℕ) (at n k : ℕ) → k < n → get_or (part l at n) k 0 ≡ get_or l (at + k) 0
unfolding part
get_or-part l at n k h = rw (get_or-take, get_or-drop)

-- a part that does not meet what was written is as it was
pub part-splice-other : (l : List ℕ) (at : ℕ) (v : List ℕ) (j n : ℕ) → at + length v ≤ length l → j + n ≤ length l
    → (j + n ≤ at) ⊎ (at + length v ≤ j) → part (splice l at v) j n ≡ part l j n
part-splice-other l at v j n fits g apart =
    ext_get_or 0 (part (splice l at v) j n) (part l j n) (cut ∙ sym (length_part l j n g)) (λ k h. same k (rw cut at h))
  where
    cut : length (part (splice l at v) j n) ≡ n
    cut = length_part (splice l at v) j n (rw (length-splice l at v fits) g)

    same : (k : ℕ) → k < n → get_or (part (splice l at v) j n) k 0 ≡ get_or (part l j n) k 0
    same k h =
        get_or-part (splice l at v) j n k h
        ∙ ⊎_elim (λ a. get_or-splice_below l at v fits (j + k) (omega arith)) (λ a. get_or-splice_above l at v fits (j + k) (omega arith)) apart
        ∙ sym (get_or-part l j n k h)

-- a part of a part is a part of the whole
pub part-part : (l : List ℕ) (a n b m : ℕ) → a + n ≤ length l → b + m ≤ n → part (part l a n) b m ≡ part l (a + b) m
part-part l a n b m h k =
    ext_get_or 0 (part (part l a n) b m) (part l (a + b) m) (cut ∙ sym (length_part l (a + b) m (omega arith))) (λ i j. same i (rw cut at j))
  where
    cut : length (part (part l a n) b m) ≡ m
    cut = length_part (part l a n) b m (rw (length_part l a n h) k)

    same : (i : ℕ) → i < m → get_or (part (part l a n) b m) i 0 ≡ get_or (part l (a + b) m) i 0
    same i j =
        get_or-part (part l a n) b m i j
        ∙ get_or-part l a n (b + i) (omega arith)
        ∙ ap (λ (x : ℕ). get_or l x 0) (sym (add_assoc a b i))
        ∙ sym (get_or-part l (a + b) m i j)

-- a turn of a loop that copies s, and its end
pub copy_turn : (d : List ℕ) (at : ℕ) (s : List ℕ) (j : ℕ) (x : List ℕ) → at + length s ≤ length d → j < length s
    → x ≡ splice d at (take j s) → set x (at + j) (get_or s j 0) ≡ splice d at (take (j + 1) s)
copy_turn d at s j x fits h e =
    let n : length (take j s) ≡ j = length-take-le j s (omega arith) in
    ap (λ (y : List ℕ). set y (at + j) (get_or s j 0)) e
    ∙ ap (λ (k : ℕ). set (splice d at (take j s)) (at + k) (get_or s j 0)) (sym n)
    ∙ set_next d at (take j s) (get_or s j 0) (omega arith)
    ∙ ap (λ (y : List ℕ). splice d at y) (sym (rw add-one (take-suc s j 0 h)))

pub copy_end : (d : List ℕ) (at : ℕ) (s : List ℕ) (j : ℕ) (x : List ℕ) → length s ≤ j → x ≡ splice d at (take j s) → x ≡ splice d at s
copy_end d at s j x h e = e ∙ ap (λ (y : List ℕ). splice d at y) (take_all j s h)

-- a turn of a loop that writes the value a again and again
pub fill_turn : (d : List ℕ) (at a j : ℕ) (x : List ℕ) → at + j < length d
    → x ≡ splice d at (replicate j a) → set x (at + j) a ≡ splice d at (replicate (j + 1) a)
fill_turn d at a j x fits e =
    let n : length (replicate j a) ≡ j = length-replicate j a in
    ap (λ (y : List ℕ). set y (at + j) a) e
    ∙ ap (λ (k : ℕ). set (splice d at (replicate j a)) (at + k) a) (sym n)
    ∙ set_next d at (replicate j a) a (omega arith)
    ∙ ap (λ (y : List ℕ). splice d at y) (replicate-append-replicate j 1 a)
