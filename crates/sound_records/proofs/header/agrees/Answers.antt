-- `header::agrees`: length, slot count, mark, version and zero bytes, in that order.
use mathlib.Core.Path.{refl}
use Rattle.laws.proofs.Chains.{ungot_and, got_and, ne-and, eq-and, gt_and, le-and}
use Rattle.sound_records.proofs.Bytes.{header-short, header_at, known-not, known-and}
use Rattle.sound_records.proofs.header.agrees.Goals as goal

pub returns-then-image-lt16 : goal.returns-then-image-lt16
returns-then-image-lt16 c = search header-short

pub returns-then-image-n : goal.returns-then-image-n
returns-then-image-n c = search (header_at, ungot_and, got_and, ne-and, eq-and, gt_and, le-and, refl) depth 30

pub returns-then-n-lt2 : goal.returns-then-n-lt2
returns-then-n-lt2 c = search (header_at, ungot_and, got_and, ne-and, eq-and, gt_and, le-and, refl) depth 30

pub returns-then-n-gt1023 : goal.returns-then-n-gt1023
returns-then-n-gt1023 c = search (header_at, ungot_and, got_and, ne-and, eq-and, gt_and, le-and, refl) depth 30

pub returns-then-image-ne85 : goal.returns-then-image-ne85
returns-then-image-ne85 c = search (header_at, ungot_and, got_and, ne-and, eq-and, gt_and, le-and, refl) depth 30

pub returns-then-image-ne70 : goal.returns-then-image-ne70
returns-then-image-ne70 c = search (header_at, ungot_and, got_and, ne-and, eq-and, gt_and, le-and, refl) depth 30

pub returns-then-image-ne84 : goal.returns-then-image-ne84
returns-then-image-ne84 c = search (header_at, ungot_and, got_and, ne-and, eq-and, gt_and, le-and, refl) depth 30

pub returns-then-not-is_known : goal.returns-then-not-is_known
returns-then-not-is_known c = search (header_at, known-not, known-and, ungot_and, got_and, ne-and, eq-and, gt_and, le-and, refl) depth 30

pub returns : goal.returns
returns c = search (header_at, known-not, known-and, ungot_and, got_and, ne-and, eq-and, gt_and, le-and, refl) depth 30
