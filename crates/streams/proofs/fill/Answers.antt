use Rattle.std.proofs.Common.{◌≡◌, ℕ, ◌+◌, ◌≤◌, List, ◌++◌, length, take, sym, ap, subst, ◌∙◌, arith, rules}
use lib.Seq.{take-take}
use borrow.Rule.Slice.PartMut.{put_mid}
use Rattle.std.proofs.Math.Seq.{take-append-add}
use Rattle.std.proofs.lemmas.List.{length-take-le}
use Rattle.std.proofs.lemmas.Slice.{take-put_mid}
use Rattle.std.proofs.KnownBytes.{Consumes-trans}
use Rattle.std.specs.Io.KnownBytes.{Consumes}
use Rattle.streams.proofs.fill.Goals as goal

-- what was read into the part from n on stands behind what stood before it
behind : (n k got : ℕ) (xs ys : List ℕ) → n ≤ length xs → got ≤ length ys → take (n + got) (put_mid n k xs ys) ≡ take n xs ++ take got ys
behind n k got xs ys l m =
    sym (take-take (n + got) (n + length ys) (put_mid n k xs ys) (omega arith))
    ∙ ap (take (n + got)) (take-put_mid n k xs ys (n + length ys) (omega arith) l)
    ∙ ap (λ (j : ℕ). take (j + got) (take n xs ++ ys)) (sym (length-take-le n xs l))
    ∙ take-append-add (take n xs) ys got

pub loop-n-preserved : goal.loop-n-preserved
loop-n-preserved g c =
    let fits = c.in_ok-got.ensures.bound in
    let before = c.loop-n.invariant in (
      search rules,
      subst (Consumes _ _)
          (sym (behind c.loop-n.n _ c.in_ok-got.got c.loop-n.buf c.read.new.buf before.0 fits.0))
          (Consumes-trans _ _ _ _ _ before.1 c.in_ok-got.ensures.bytes.0),
    )
