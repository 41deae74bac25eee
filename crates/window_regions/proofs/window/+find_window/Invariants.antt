-- Each call looks at one window fewer.
use Rattle.std.proofs.Common.{length}
use Rattle.window_regions.proofs.window.+find_window.Given as goal

abbrev pub decreases-find_window : goal.decreases-find_window
decreases-find_window l = length l.windows.now
