use Rattle.std.proofs.Common.{◌≡◌, ◌≤◌, ◌+◌, drop, length}
use Rattle.std.specs.Prelude.{filter}
use Rattle.gcp_master.specs.Voices.{is_of}
use Rattle.gcp_master.proofs.voices.voices_of.Given as goal

-- those so far and those that are left are all
abbrev pub invariant-loop-voice : goal.invariant-loop-voice
invariant-loop-voice l = record {
  left : l.count + length (filter (is_of l.member) (drop l.voice-index l.voices))
      ≡ length (filter (is_of l.member) l.voices);
  few : l.count ≤ l.voice-index;
}
