-- `Objects::next`: nothing at the end of the row; bytes that are no object, and nothing after them.
use mathlib.Core.Path.{◌≡◌, sym, ap, ◌∙◌}
use mathlib.Core.List.{List, [], ◌∷◌}
use native.Mathlib.Omega.{arith}
use Rattle.expanded.specs.Object.{Object, cut, objects_of}
use Rattle.expanded.proofs.Objects.{objects_end, objects_none}
use Rattle.expanded.proofs.object.ObjectsIterator.next.Goals as goal

pub returns-then-s-lt1-clause-steps : goal.returns-then-s-lt1-clause-steps
returns-then-s-lt1-clause-steps c =
    let e : objects_of c.args.self.now.0.now ≡ [] = objects_end c.args.self.now.0.now 0 (omega arith) in
    (e, e)

pub returns-then-to-lt2-clause-steps : goal.returns-then-to-lt2-clause-steps
returns-then-to-lt2-clause-steps c =
    c.end-to.ensures.broken (omega arith) ∙ ap (λ (os : List Object). cut ∷ os) (sym objects_none)

pub returns-then-to-lt2-clause-goes : goal.returns-then-to-lt2-clause-goes
returns-then-to-lt2-clause-goes c =
    let e : objects_of c.args.self.now.0.now ≡ cut ∷ [] = c.end-to.ensures.broken (omega arith) in
    record { on = λ f. (tt, tt, rw (e, objects_none) (omega arith)); keeps = tt; rests = λ f. tt }
