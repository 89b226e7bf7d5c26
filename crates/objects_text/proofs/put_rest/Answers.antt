-- `put_rest`: the life cycle of an 8A of one byte; else the end of the line.
use mathlib.Core.Path.{ap₂}
use Rattle.objects_text.specs.Lines.{mark_line, life_line}
use Rattle.text.proofs.Written.{same_text}
use Rattle.objects_text.proofs.Lives.{one-life}
use Rattle.objects_text.proofs.put_rest.Goals as goal

pub returns : goal.returns
unfolding life_line
returns c = one-life _ _ c.if-object-ne138.false c.if-end-start-ne1.false c.put-next.ensures
    (same_text _ _ c.put_mark.ensures (ap₂ mark_line c.from.ensures c.life_word.ensures.word))
