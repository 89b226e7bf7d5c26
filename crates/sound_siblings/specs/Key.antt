-- The key of a file among its siblings.
use Rattle.std.specs.Prelude.{ℕ, ◌+◌, ◌*◌, ◌%◌}
use Rattle.sound.specs.Table.{View}

-- parent and identifier in 16 bits
unfoldable pub sibling_key : (ℕ → View) → ℕ → ℕ
sibling_key v s = ((v s).identifier + (v s).parent * 40503) % 65536
