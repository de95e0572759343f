-- Confirmations, counted by member.
use Rattle.std.specs.Prelude.{ℕ, ◌&&◌, ◌||◌, Bool, nat_eq, nat_le, List, filter, length}
use Rattle.std.specs.List.{list_all, list_any}
use Rattle.sig_core.specs.declared.member.Member.{Member}
use Rattle.sig_core.specs.declared.view.View.{View}
use Rattle.sig_core.specs.Members.{nobody}
use Rattle.gcp_master.specs.declared.voices.Voice.{Voice}

-- the filler behind the confirmations
abbrev pub no_voice : Voice
no_voice = record { member = nobody; from = record { 0 = 0 } }

-- the two are one member
abbrev pub same_member : Member → Member → Bool
same_member one other = nat_eq one.node other.node && nat_eq one.start other.start

-- the two are the same block of the same member
abbrev pub same_voice : Voice → Voice → Bool
same_voice one other = same_member one.member other.member && nat_eq one.from.0 other.from.0

-- the member is among these
abbrev pub is_among : List Member → Member → Bool
is_among members member = list_any (same_member member) members

-- the member is in the view, full or starting
abbrev pub is_in : View → Member → Bool
is_in view member = is_among view.full member || is_among view.starting member

-- this block has confirmed before
abbrev pub is_heard : List Voice → Voice → Bool
is_heard voices voice = list_any (same_voice voice) voices

-- how many blocks of the member have confirmed
abbrev pub is_of : Member → Voice → Bool
is_of member voice = same_member member voice.member

abbrev pub voices_of : List Voice → Member → ℕ
voices_of voices member = length (filter (is_of member) voices)

-- so many blocks of each of these members have confirmed
abbrev pub has_all : ℕ → List Voice → List Member → Bool
has_all blocks voices members = list_all (λ member. nat_le blocks (voices_of voices member)) members
