-- What the copying sends to many.
use Rattle.std.specs.Prelude.{ℕ, zero, suc, ◌+◌, ◌&&◌, Bool, true, false, List, [], ◌∷◌, ◌++◌}
use Rattle.std.specs.List.{flat_map, list_any}
use Rattle.sig_core.specs.declared.member.Member.{Member}
use Rattle.sig_core.specs.declared.outs.Outgoing.{Outgoing}
use Rattle.sig_core.specs.declared.signal.Body.TheVariants.{Copying, Joining}
use Rattle.sig_core.specs.declared.signal.copying.CopyingSignal.TheVariants.{CopyFragReq}
use Rattle.sig_core.specs.declared.signal.host.Work.TheVariants as work
use Rattle.sig_core.specs.declared.signal.joining.JoiningSignal.TheVariants.{DrainReq}
use Rattle.sig_core.specs.Chain.{node_at}
use Rattle.sig_core.specs.Place.{copying, rows_of}
use Rattle.sig_core.specs.Portion.{left_after, portion_effects}
use Rattle.sig_core.specs.Step.{Effects, to_place}
use Rattle.frag_map.specs.Layout.{Layout}
use Rattle.frag_map.specs.Replicas.{is_member, is_of_group, replicas_of}
use Rattle.frag_map.specs.Shape.{group_of}
use Rattle.copy_block.specs.declared.stage.Joiner.{Joiner}

-- the member is of the group of another one
abbrev pub is_beside : Layout → Member → Member → Bool
is_beside layout joining member = is_of_group layout.shape (group_of layout.shape joining.node) member

-- it is a full member of that group
unfoldable pub is_full_beside : Layout → Member → Member → Bool
is_full_beside layout joining member =
    list_any (is_member member) layout.view.full && is_beside layout joining member

-- such a one is told to tell when what is under way there has ended
abbrev pub drain_if : Member → Bool → List Outgoing
drain_if member true = to_place (rows_of member.node) (Joining DrainReq) ∷ []
drain_if member false = []

unfoldable pub drain_of : Layout → Member → Member → List Outgoing
drain_of layout joining member = drain_if member (is_beside layout joining member)

-- each full member of the group is
unfoldable pub drain_sends : Layout → Member → List Outgoing
drain_sends layout joining = flat_map (drain_of layout joining) layout.view.full

-- the primary of a fragment is to copy it, if the member that begins anew is one of its replicas
abbrev pub request_if : Joiner → ℕ → List Member → Bool → List Outgoing
request_if joiner fragment chain true =
    to_place (copying (node_at chain 0)) (Copying (CopyFragReq joiner.member fragment joiner.own)) ∷ []
request_if joiner fragment chain false = []

unfoldable pub request_along : Joiner → ℕ → List Member → List Outgoing
request_along joiner fragment chain = request_if joiner fragment chain (list_any (is_member joiner.member) chain)

abbrev pub request_of : Layout → Joiner → ℕ → List Outgoing
request_of layout joiner fragment = request_along joiner fragment (replicas_of layout.shape layout.view fragment)

-- so it is for each of n fragments from this one on
abbrev pub requests_from : Layout → Joiner → ℕ → ℕ → List Outgoing
requests_from layout joiner fragment zero = []
requests_from layout joiner fragment (suc n) =
    request_of layout joiner fragment ++ requests_from layout joiner (fragment + 1) n

-- so it is for all fragments, in order
unfoldable pub request_sends : Layout → Joiner → List Outgoing
request_sends layout joiner = requests_from layout joiner 0 layout.shape.fragments

-- what an event sends of the requests, from a place on, and the place that is left
unfoldable pub request_effects : ℕ → Layout → Joiner → ℕ → Effects
request_effects node layout joiner at =
    portion_effects (copying node) work.Members (request_sends layout joiner) at

unfoldable pub requests_left : Layout → Joiner → ℕ → ℕ
requests_left layout joiner at = left_after (request_sends layout joiner) at
