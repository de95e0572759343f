-- A round of time, where no host has stopped: the rows of each node are told, as the API tells them, and the membership
-- of each besides.
use Rattle.std.proofs.Common.{◌≡◌, ◌+◌, ◌<◌, ◌≤◌, ℕ, zero, suc, List, [], ◌∷◌, ◌++◌, Bool, true, false, refl, sym, ap}
use Rattle.std.proofs.Common.{◌∙◌}
use Rattle.std.proofs.Common.{subst, append-nil, arith}
use Rattle.std.specs.Prelude.{if◌then◌else◌, map, None}
use Rattle.std.proofs.lemmas.Bool.{false≢true}
use Rattle.std.proofs.lemmas.List.{map-append}
use Rattle.api_block.specs.declared.members.News.TheVariants as news
use Rattle.api_block.specs.Members.{everyone, telling_all}
use Rattle.api_block.specs.State.{ApiState}
use Rattle.api_views.specs.Laws.{calm_state, is_calm_body}
use Rattle.api_views.specs.Rounds.{all_rounds, four_rounds, is_live, rounds_of}
use Rattle.api_views.specs.Stops.{has_stopped}
use Rattle.frag_map.specs.Layout.{first_view, members}
use Rattle.frag_map.specs.Replicas.{first_start}
use Rattle.run_theory.proofs.Pasts.{each_append}
use Rattle.run_theory.specs.Lists.{Each}
use Rattle.sig_core.specs.declared.member.Member.{Member}
use Rattle.sig_core.specs.declared.outs.Outgoing.{Outgoing}
use Rattle.sig_core.specs.declared.place.BlockId.{BlockId}
use Rattle.sig_core.specs.declared.place.BlockId.TheVariants.{Lqh, Qmgr}
use Rattle.sig_core.specs.declared.request.ApiReq.TheVariants.{Tick}
use Rattle.sig_core.specs.declared.signal.Body.{Body}
use Rattle.sig_core.specs.declared.signal.Body.TheVariants.{Host}
use Rattle.sig_core.specs.declared.signal.host.HostSignal.TheVariants.{Continue, Round}
use Rattle.sig_core.specs.declared.signal.host.Work.TheVariants.{Request}
use Rattle.sig_core.specs.Step.{to_place}
use Rattle.world_core.specs.Start.{Start}
use Rattle.calm_laws.specs.Steps.{besides, is_tick, round_for}
use lib.Seq.{take-nil}

-- a round for this block of a member's node
abbrev round_of : BlockId → Member → Outgoing
round_of of member = to_place (record { node = member.node; block = of }) (Host Round)

-- of eight nodes those are live that the cluster has, which are the members of its first view
all_told : (a : ApiState) (of : BlockId) (nodes : ℕ) → 1 ≤ nodes → nodes ≤ 8
    → all_rounds (calm_state a nodes None) of ≡ map (round_of of) (members nodes)
unfolding four_rounds rounds_of is_live has_stopped
all_told a of zero some few = absurd (omega (arith, some))
all_told a of (suc zero) some few = refl
all_told a of (suc (suc zero)) some few = refl
all_told a of (suc (suc (suc zero))) some few = refl
all_told a of (suc (suc (suc (suc zero)))) some few = refl
all_told a of (suc (suc (suc (suc (suc zero))))) some few = refl
all_told a of (suc (suc (suc (suc (suc (suc zero)))))) some few = refl
all_told a of (suc (suc (suc (suc (suc (suc (suc zero))))))) some few = refl
all_told a of (suc (suc (suc (suc (suc (suc (suc (suc zero)))))))) some few = refl
all_told a of (suc (suc (suc (suc (suc (suc (suc (suc (suc nodes))))))))) some few = absurd (omega (arith, few))

-- the first view has full members alone
all_full : (nodes : ℕ) → everyone (first_view nodes) ≡ members nodes
unfolding everyone
all_full nodes = ap (λ (more : List Member). members nodes ++ more) (take-nil _) ∙ append-nil (members nodes)

-- so these are told
pub rows_told : (a : ApiState) (nodes : ℕ) → 1 ≤ nodes → nodes ≤ 8
    → all_rounds (calm_state a nodes None) Lqh ≡ telling_all news.Round (everyone (first_view nodes))
rows_told a nodes some few =
    all_told a Lqh nodes some few ∙ sym (ap (λ (all : List Member). telling_all news.Round all) (all_full nodes))

pub memberships_told : (a : ApiState) (nodes : ℕ) → 1 ≤ nodes → nodes ≤ 8
    → all_rounds (calm_state a nodes None) Qmgr ≡ map round_for (members nodes)
memberships_told a nodes some few = all_told a Qmgr nodes some few

-- what holds of the round for each node holds of all that is sent besides
each_round : (P : Outgoing → Type 0) (n : ℕ) → ((k : ℕ) → k < n → P (round_for (first_start (k + 1))))
    → Each P (map round_for (members n))
each_round P zero holds = tt
each_round P (suc n) holds =
    subst (Each P) (sym (map-append round_for (members n) (first_start (n + 1) ∷ [])))
    (each_append P (map round_for (members n)) (round_for (first_start (n + 1)) ∷ [])
    (each_round P n (λ k low. holds k (omega (arith, low)))) (holds n (omega arith), tt))

pub each_besides : (P : Outgoing → Type 0) (start : Start) (h : ℕ) (body : Body)
    → ((k : ℕ) → k < start.shape.nodes → P (round_for (first_start (k + 1)))) → Each P (besides start h body)
each_besides P start zero body holds = by (is_tick body)
  where
    by : (b : Bool) → Each P (if b then map round_for (members start.shape.nodes) else [])
    by true = each_round P start.shape.nodes holds
    by false = tt
each_besides P start (suc h) body holds = tt

-- which is nothing where the client's side does what the API does
untimed : (body : Body) → is_calm_body body ≡ true → is_tick body ≡ false
untimed (Host (Continue (Request (Tick round of)) at)) is = absurd (false≢true is)
untimed body is = refl

pub none_besides : (start : Start) (body : Body) → is_calm_body body ≡ true → besides start 0 body ≡ []
none_besides start body is =
    ap (λ (b : Bool). if b then map round_for (members start.shape.nodes) else []) (untimed body is)
