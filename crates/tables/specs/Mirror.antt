-- The table of a model with one more column, the negative of another. Assumes nothing.
use Rattle.std.specs.Prelude.{ℕ, ◌<◌, map, pos, neg_ℤ, Some, None, Option, slice_index_or}
use Rattle.mdp.specs.Limits.{max_columns}
use Rattle.mdp.specs.Table.{Branch, Table}
use Rattle.tables.specs.Layer.{extended, extended_table, each_branch}

abbrev pub mirror_branch : ℕ → Branch → Branch
mirror_branch j b = extended b b.next (neg_ℤ (slice_index_or b.rewards j (pos 0)))

unfoldable pub mirror_table : ℕ → Table → Table
mirror_table j t = extended_table t (map (each_branch (mirror_branch j)) t.states)

-- the column is there, and its negative has a place
abbrev pub MirrorFits : ℕ → Table → Type 0
MirrorFits j t = (j < t.columns) × (t.columns < max_columns)

-- the table of the layer: with a column its own, without that below
unfoldable pub mirror_view : Option ℕ → Table → Table
mirror_view None t = t
mirror_view (Some j) t = mirror_table j t
