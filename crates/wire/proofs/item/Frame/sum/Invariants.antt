use Rattle.std.proofs.Common.{◌≡◌, ◌+◌, ◌%◌, ◌^◌, ◌<◌, drop}
use Rattle.std.specs.List.{sum_by}
use Rattle.wire.specs.Frames.{frame_sum}
use Rattle.wire.proofs.Sums.{word_of}
use Rattle.wire.proofs.item.Frame.sum.Given as goal

-- what is left to add gives the sum
abbrev pub invariant-loop-word : goal.invariant-loop-word
invariant-loop-word l = (l.sum < 2 ^ 32) × ((l.sum + sum_by word_of (drop l.word-index l.word-items)) % 2 ^ 32 ≡ frame_sum l.self.class l.self.id l.self.payload.now)
