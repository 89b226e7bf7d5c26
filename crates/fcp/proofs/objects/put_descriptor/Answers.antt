-- `objects::put_descriptor` writes 82: four bytes, or six where the structure has records.
use Rattle.fcp.specs.Template.{descriptor_object}
use Rattle.image.specs.Layout.{rec_at}
use lib.ListN.{length}
use native.Mathlib.Omega.{arith}
use mathlib.Core.Path.{◌≡◌}
use Rattle.fcp.proofs.Pieces.{two-bytes, records-told, plain-told, six}
use Rattle.fcp.proofs.objects.put_descriptor.Goals as goal

pub put-requires : goal.put-requires
put-requires c =
    let a = c.args in
    let e : length (descriptor_object (rec_at a.image.now a.s)) ≡ 6 = search six in
    (omega arith, omega arith)

pub returns-then-has_records : goal.returns-then-has_records
returns-then-has_records c =
    records-told _ c.descriptor-d.ensures c.has_records.ensures c.if-has_records.true
    (two-bytes c.to_be_bytes.ensures c.record_length.type_inv c.record_length.ensures) c.put.ensures

pub returns : goal.returns
returns c = search plain-told
