-- A part of a slice that is written over as a whole is a splice.
use mathlib.Core.Path.{◌≡◌, sym, ap, ◌∙◌}
use mathlib.Core.List.{List, ◌++◌, append_assoc}
use Prim.Native.Nat.{ℕ, ◌+◌}
use borrow.Rule.Slice.PartMut.{put_mid}
use lib.ListN.{length, take, drop}
use lib.Seq.{drop-drop}
use Rattle.laws.specs.Lists.{splice}

-- k bytes from a on now hold v, which has as many
pub put_mid-splice : (l : List ℕ) (a k : ℕ) (w v : List ℕ) → w ≡ v → k ≡ length v → put_mid a k l w ≡ splice l a v
unfolding splice
put_mid-splice l a k w v e n =
    ap (λ (x : List ℕ). take a l ++ (x ++ drop k (drop a l))) e
    ∙ ap (λ (x : List ℕ). take a l ++ (v ++ x)) (drop-drop k a l ∙ ap (λ (i : ℕ). drop (a + i) l) n)
    ∙ sym (append_assoc (take a l) v (drop (a + length v) l))
