-- What CREATE needs of the image, the pool and the command, where its effect applies.
use mathlib.Core.Path.{◌≡◌}
use mathlib.Core.List.{List}
use Prim.Native.Nat.{ℕ, ◌≤◌}
use lib.ListN.{length}
use Rattle.std.specs.Prelude.{Ok}
use Rattle.template.specs.Objects.{bytes_at}
use Rattle.image.specs.Layout.{longest_rule, version_of, Sized, Within, count_of}
use Rattle.image.proofs.Records.{within-sized}
use Rattle.pool.specs.Bodies.{start_at, body_at}
use Rattle.pool.specs.Laid.{Laid}
use Rattle.verdict.specs.declared.NewRecord.{NewRecord}
use Rattle.verdict.specs.declared.Effect.TheVariants.{Create}
use Rattle.verdict.specs.Applied.{Verdict, sent_data}
use Rattle.effect.specs.Fit.{FileSent, Roomy, Applies}
use Rattle.effect.proofs.Sent.{length-sent}

module _ (img : List ℕ) (n : ℕ) (pool c : List ℕ) (v : Verdict) (applies : Applies img n pool c v) where
  module _ (x : NewRecord) (e : v ≡ Ok (Create x)) where
    sent_roomy : FileSent (version_of img) n c x × Roomy img pool x.head
    sent_roomy = rw e at applies.fit

    create-sent : FileSent (version_of img) n c x
    create-sent = sent_roomy.0

    pub create-fits : (name rule : List ℕ) → name ≡ bytes_at (sent_data c) x.name → rule ≡ bytes_at (sent_data c) x.rule
        → ((Within img x.slot × Sized img n) × (n ≡ count_of img))
        × (((length name ≤ 16) × (length rule ≤ longest_rule (version_of img)))
        × (Laid n (start_at img) (body_at img) (length pool) × Roomy img pool x.head))
    create-fits name rule f g = (
      ((within-sized img n x.slot applies.rooted.sized create-sent.low, applies.rooted.sized), applies.count),
      (
        (
          rw f (length-sent c x.name 16 create-sent.name),
          rw g (length-sent c x.rule (longest_rule (version_of img)) create-sent.rule),
        ),
        (applies.laid, sent_roomy.1),
      ),
    )
