-- What a window holds of a file.
use Rattle.std.specs.Prelude.{ℕ, List, drop}
use Rattle.ix_base.specs.Told.{IsFrontOf}
use Rattle.ix_log.specs.declared.window.Window.{Window}

-- the window's bytes stand in the file, from the window's place on
abbrev pub IsWindowOn : Window → List ℕ → Type 0
IsWindowOn window file = IsFrontOf window.held.items (drop window.start file)
