-- A line is left, and the bytes printed are those of the lines before it, and were written.
use Rattle.std.proofs.Common.{◌≡◌, ◌-◌, ◌<◌, length, take}
use mathlib.Core.List.{flatten}
use Rattle.std.specs.Io.KnownBytes.{Appends}
use Rattle.text_parts.specs.Parts.{lines_for}
use Rattle.printing.proofs.print_parts.Given as goal

abbrev pub invariant-loop-lines : goal.invariant-loop-lines
invariant-loop-lines g l =
    (length l.out ≡ 262144) × (l.from < length (lines_for g.P.InParts.judged l.text)) × (l.printed ≡ length (flatten (take l.from (lines_for g.P.InParts.judged l.text))))
    × Appends (g.W.Write.contents l.initial.to) (g.W.Write.contents l.to) (flatten (take l.from (lines_for g.P.InParts.judged l.text)))

abbrev pub decreases-loop-lines : goal.decreases-loop-lines
decreases-loop-lines g l = length (lines_for g.P.InParts.judged l.text) - l.from
