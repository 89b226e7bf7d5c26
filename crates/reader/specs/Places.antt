-- Where a reader goes from a place of a template: behind the object that stands there, or nowhere
-- (01 "CREATE", data).
use Rattle.std.specs.Prelude.{ℕ, List, Option, Some, None}
use Rattle.template.specs.declared.Object.{Object}
use Rattle.template.specs.Objects.{object_at}

-- where an object ends, if it is whole
abbrev pub end_or : ℕ → Option Object → ℕ
end_or at None = at
end_or at (Some x) = x.value.end

unfoldable pub place_after : List ℕ → ℕ → ℕ
place_after s at = end_or at (object_at s at)
