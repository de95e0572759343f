-- What each host has done since a quiet moment, where all goes on calmly: what it sent is fine, a main part rests with
-- few rounds missed, and the shell told each main part of a round for each request at most.
use Rattle.std.proofs.Common.{◌≡◌, ◌≢◌, ◌⊎◌, ◌+◌, ◌<◌, ◌≤◌, inl, inr, ℕ, List, [], ◌∷◌, ◌++◌, length, Bool, true, false}
use Rattle.std.proofs.Common.{refl, ap, sym, ◌∙◌, subst, length-append, arith}
use Rattle.std.specs.Prelude.{if◌then◌else◌, None, option_to_list}
use Rattle.std.proofs.lemmas.Bool.{cases_eq}
use Rattle.frag_map.specs.Replicas.{first_start}
use Rattle.frag_map.specs.Shape.{IsShape}
use Rattle.node_core.specs.declared.host.Host as plain
use Rattle.node_core.specs.Requests.{is_request}
use Rattle.node_views.specs.declared.parts.Parts.{Parts}
use Rattle.node_views.specs.declared.parts.Parts.TheVariants.{Shell, Main, Tc, Ldm}
use Rattle.qmgr_block.specs.declared.ring.Sides.{Sides}
use Rattle.qmgr_block.specs.Ring.{heartbeat_to, place_behind, place_in_front}
use Rattle.qmgr_block.specs.Sets.{same_member}
use Rattle.run_theory.proofs.Pasts.{each_append}
use Rattle.run_theory.proofs.Runs as theory
use Rattle.run_theory.proofs.Tally.{tally_append}
use Rattle.run_theory.specs.Counts.{one_if, tally}
use Rattle.run_theory.specs.Links.{sent, taken}
use Rattle.run_theory.specs.Lists.{Each, IsPast}
use Rattle.sig_core.specs.declared.member.Member.{Member}
use Rattle.sig_core.specs.declared.outs.Outgoing.{Outgoing}
use Rattle.sig_core.specs.declared.place.BlockId.{BlockId}
use Rattle.sig_core.specs.declared.place.BlockId.TheVariants.{Qmgr}
use Rattle.sig_core.specs.declared.request.ApiReq.TheVariants as request
use Rattle.sig_core.specs.declared.signal.Body.{Body}
use Rattle.sig_core.specs.declared.signal.Body.TheVariants.{Host, Membership}
use Rattle.sig_core.specs.declared.signal.host.HostSignal.TheVariants.{Continue, Round}
use Rattle.sig_core.specs.declared.signal.host.Work.TheVariants.{Request}
use Rattle.sig_core.specs.declared.signal.membership.MembershipSignal.TheVariants.{Heartbeat}
use Rattle.sig_core.specs.declared.signal.Signal.{Signal}
use Rattle.world_core.specs.Hosts.{member_at}
use Rattle.world_core.specs.Requests.{request_in}
use Rattle.world_core.specs.Start.{NobodyStarts, Start, made}
use Rattle.world_core.specs.Steps.{HostStep}
use Rattle.world_views.specs.Machine.{after, machine, step_after, stops_by}
use Rattle.world_views.specs.Requests.{request_of, requests}
use Rattle.world_views.specs.Sending.{is_asked}
use Rattle.calm_laws.specs.Alike.{AreAlike, IsAtEase}
use Rattle.calm_laws.specs.Calm.{is_for, is_for_membership}
use Rattle.calm_laws.specs.Resting.{IsRestingPart}
use Rattle.calm_laws.specs.Steps.{ComesCalmly, IsPlainSend, besides, is_tick}
use Rattle.calm_laws.proofs.plain_steps.Ease.{has_calm_block, takes_calmly}
use Rattle.calm_laws.proofs.places.FineSends.{beating_block, besides_fine, besides_one, heartbeat_fine, heartbeat_one}
use Rattle.calm_laws.proofs.places.FineSends.{plain_none}
use Rattle.calm_laws.proofs.lives.FirstRing.{behind_low, front_low, same_self}
use Rattle.calm_laws.proofs.plain_steps.LoneRounds.{lone_round}
use Rattle.calm_laws.proofs.places.Main.{main_at, main_beats, main_low, main_member, none_beside, two_beside}
use Rattle.calm_laws.proofs.plain_steps.Rest.{HostRests, heartbeat_restores, heartbeat_rests, round_steps}
use Rattle.calm_laws.proofs.plain_steps.Resting.{beats}
use Rattle.calm_laws.proofs.plain_steps.SentStep.{IsFineSend, IsSince, goes_to, sent_length, since_next}

-- the main parts beside one in the ring
abbrev pub behind : Start → ℕ → ℕ
behind start k = main_at (place_behind start.shape.nodes k)

abbrev pub in_front : Start → ℕ → ℕ
in_front start k = main_at (place_in_front start.shape.nodes k)

-- A main part, since it had such a log, in a cluster of some nodes: it rests, and has missed one round at most besides
-- those that it took; none besides them once it took a heartbeat of the main part in front of it. At each round it told
-- the one behind it.
pub record IsSteady (start : Start) (base : List HostStep) (k : ℕ) (log : List HostStep) : Type 0 where
  pub late : ℕ
  pub some : late ≤ 1
  pub rounds : ℕ
  pub took : length (taken (machine start) 0 log) ≡ rounds + length (taken (machine start) 0 base)
  pub rests : IsRestingPart start (main_at k) (late + rounds) (after start (main_at k) log).parts
  pub heard :
      length (taken (machine start) (in_front start k) base) < length (taken (machine start) (in_front start k) log)
      → late ≡ 0
  pub beats : rounds + length (sent (machine start) (main_at k) (behind start k) base)
      ≤ length (sent (machine start) (main_at k) (behind start k) log)

-- and one that is alone
pub record IsMainGood (start : Start) (base : List HostStep) (k : ℕ) (log : List HostStep) : Type 0 where
  pub alone : start.shape.nodes ≡ 1 → IsRestingPart start (main_at k) 1 (after start (main_at k) log).parts
  pub steady : 2 ≤ start.shape.nodes → IsSteady start base k log

-- The shell: it told each main part of as many rounds, and was asked for so many requests at least.
pub record IsShellSteady (start : Start) (base log : List HostStep) : Type 0 where
  pub rounds : ℕ
  pub told : (k : ℕ) → k < start.shape.nodes
      → length (sent (machine start) 0 (main_at k) log) ≡ rounds + length (sent (machine start) 0 (main_at k) base)
  pub asked : rounds + length (requests base) ≤ length (requests log)

-- What host h has done since a quiet moment.
pub record IsGood (start : Start) (logs : ℕ → List HostStep) (h : ℕ) (log : List HostStep) : Type 0 where
  pub past : IsPast (logs h) log
  pub since : (j : ℕ) → IsSince start h j (logs h) log
  pub main : (k : ℕ) → k < start.shape.nodes → h ≡ main_at k → IsMainGood start (logs h) k log
  pub shell : h ≡ 0 → IsShellSteady start (logs h) log

-- who rests with so many missed at most rests with more at most
pub rests_more : (start : Start) (h few many : ℕ) (parts : Parts) → few ≤ many → IsRestingPart start h few parts
    → IsRestingPart start h many parts
rests_more start h few many (Main p) less rests =
    record { missed = rests.missed; few = omega (arith, rests.few, less); is = rests.is }
rests_more start h few many (Shell p) less rests = absurd rests
rests_more start h few many (Tc p) less rests = absurd rests
rests_more start h few many (Ldm p) less rests = absurd rests

-- what a main part takes in calm
beat_cases : (body : Body) → is_for_membership body ≡ true → (body ≡ Host Round) ⊎ (body ≡ Membership Heartbeat)
beat_cases (Host Round) is = inl refl
beat_cases (Membership Heartbeat) is = inr refl
beat_cases body is = absurd cc

-- A step of a main part.
module _ (start : Start) (nobody : NobodyStarts start) (shape : IsShape start.shape) (k : ℕ)
    (low : k < start.shape.nodes) (base log : List HostStep)
    (e : HostStep) (other : plain.Host) (alike : AreAlike start [] (after start (main_at k) log) other)
    (comes : ComesCalmly start (main_at k) e.step.taken)
    (ease : IsAtEase start (after start (main_at k) (e ∷ log)).standing) (goes_on : stops_by e.step.marks ≡ false)
    (unasked : is_asked e.host e.step.taken ≡ false)
    (round : e.step.taken.body ≡ Host Round → e.step.taken.from.0 ≡ 0)
    (told : e.step.taken.from.0 ≡ 0 → e.step.taken.body ≡ Host Round)
    (member : e.step.taken.member ≡ member_at (made start) e.step.taken.from.0)
    (room : e.step.taken.from.0 ≡ 0
    → length (taken (machine start) 0 (e ∷ log)) ≤ 1 + length (taken (machine start) 0 base)) where
  abbrev h : ℕ
  h = main_at k

  abbrev x : Signal
  x = e.step.taken

  abbrev next : ℕ
  next = place_behind start.shape.nodes k

  abbrev before : ℕ
  before = place_in_front start.shape.nodes k

  abbrev Next : Type 0
  Next =
      ((j : ℕ) → IsSince start h j base log → IsSince start h j base (e ∷ log)) × IsMainGood start base k (e ∷ log)

  next_low : next < start.shape.nodes
  next_low = behind_low start.shape.nodes k low

  with_sends : (sends : List Outgoing) → (step_after start h log e).effects.sends ≡ sends
      → Each (IsFineSend start h) sends → (j : ℕ) → IsSince start h j base log → IsSince start h j base (e ∷ log)
  with_sends sends are fine j since = since_next start nobody h log e ease goes_on sends are fine j base since

  took_more : (i : ℕ) → x.from.0 ≡ i
      → length (taken (machine start) i (e ∷ log)) ≡ 1 + length (taken (machine start) i log)
  took_more i from = omega (arith, ap length (theory.taken-step (machine start) i e log unasked from))

  took_same : (i : ℕ) → x.from.0 ≢ i
      → length (taken (machine start) i (e ∷ log)) ≡ length (taken (machine start) i log)
  took_same i apart = ap length (theory.taken-other (machine start) i e log apart)

  beat_apart : x.body ≡ Membership Heartbeat → x.from.0 ≢ 0
  beat_apart is from = absurd (cc (is, told from))

  to : x.to.block ≡ Qmgr
  to = beating_block h x.to.block (main_beats k) (has_calm_block h x comes.calm)

  -- a round: the main part behind is told
  steady_round : 2 ≤ start.shape.nodes → IsSteady start base k log → x.body ≡ Host Round → Next
  steady_round more s is =
      let from : x.from.0 ≡ 0 = round is in
      let few : s.rounds ≡ 0 = omega (arith, room from, took_more 0 from, s.took) in
      let on : HostRests start h (s.late + s.rounds + 1) (heartbeat_to (first_start (next + 1)) ∷ [])
      (step_after start h log e) =
      subst (λ sends. HostRests start h (s.late + s.rounds + 1) sends (step_after start h log e))
      (ap beats (two_beside start shape k low more))
      (round_steps start h (s.late + s.rounds) (after start h log) other x (main_beats k) alike comes s.rests
      (omega (arith, few, s.some)) is) in
      let whole : s.late + s.rounds + 1 ≡ s.late + (s.rounds + 1) = omega arith in
      let apart : x.from.0 ≢ in_front start k = λ same. absurd (cc (from, same)) in (
        with_sends (heartbeat_to (first_start (next + 1)) ∷ []) on.sent (heartbeat_fine start k next next_low),
        record {
          alone = λ one. absurd (omega (arith, one, more));
          steady = λ some. record {
            late = s.late;
            some = s.some;
            rounds = s.rounds + 1;
            took = omega (arith, took_more 0 from, s.took);
            rests = subst (λ n. IsRestingPart start h n (after start h (e ∷ log)).parts) whole on.rests;
            heard = λ less. s.heard (omega (arith, less, took_same (in_front start k) apart));
            beats = omega (
              arith,
              s.beats,
              sent_length start nobody h log e ease goes_on (heartbeat_to (first_start (next + 1)) ∷ []) on.sent
                  (heartbeat_fine start k next next_low) (behind start k),
              heartbeat_one start next next_low,
            );
          };
        },
      )

  -- a heartbeat: nobody is
  module _ (more : 2 ≤ start.shape.nodes) (s : IsSteady start base k log) (is : x.body ≡ Membership Heartbeat) where
    sent_none : (most : ℕ) → HostRests start h most [] (step_after start h log e) → (j : ℕ)
        → length (sent (machine start) h j (e ∷ log)) ≡ 0 + length (sent (machine start) h j log)
    sent_none most on j = sent_length start nobody h log e ease goes_on [] on.sent tt j

    steady_beat : Next
    steady_beat = go (cases_eq x.from.0 (in_front start k))
      where
        heard_now : x.from.0 ≡ in_front start k → HostRests start h 0 [] (step_after start h log e)
        heard_now from =
            heartbeat_restores start h (s.late + s.rounds) (after start h log) other x (first_start (before + 1))
            (main_beats k) alike comes s.rests
            (ap (λ (around : Sides). around.before) (two_beside start shape k low more))
            (ap (λ (m : Member). same_member m (first_start (before + 1)))
            (member ∙ ap (member_at (made start)) from
            ∙ main_member start before (front_low start.shape.nodes k low))
            ∙ same_self (first_start (before + 1)))
            is

        goes : HostRests start h (s.late + s.rounds) [] (step_after start h log e)
        goes =
            heartbeat_rests start h (s.late + s.rounds) (after start h log) other x (main_beats k) alike comes s.rests
            is

        go : (x.from.0 ≡ in_front start k) ⊎ (x.from.0 ≢ in_front start k) → Next
        go (inl from) = (
          with_sends [] (heard_now from).sent tt,
          record {
            alone = λ one. absurd (omega (arith, one, more));
            steady = λ some. record {
              late = 0;
              some = omega arith;
              rounds = s.rounds;
              took = omega (arith, took_same 0 (beat_apart is), s.took);
              rests =
                  rests_more start h 0 (0 + s.rounds) (after start h (e ∷ log)).parts (omega arith)
                  (heard_now from).rests;
              heard = λ less. refl;
              beats = omega (arith, s.beats, sent_none 0 (heard_now from) (behind start k));
            };
          },
        )
        go (inr apart) = (
          with_sends [] goes.sent tt,
          record {
            alone = λ one. absurd (omega (arith, one, more));
            steady = λ some. record {
              late = s.late;
              some = s.some;
              rounds = s.rounds;
              took = omega (arith, took_same 0 (beat_apart is), s.took);
              rests = goes.rests;
              heard = λ less. s.heard (omega (arith, less, took_same (in_front start k) apart));
              beats = omega (arith, s.beats, sent_none (s.late + s.rounds) goes (behind start k));
            };
          },
        )

  -- who is alone tells nobody
  lone_next : start.shape.nodes ≡ 1 → HostRests start h 1 [] (step_after start h log e) → Next
  lone_next one on = (
    with_sends [] on.sent tt,
    record { alone = λ alone. on.rests; steady = λ more. absurd (omega (arith, one, more)) },
  )

  pub main_next : IsMainGood start base k log → Next
  main_next good =
      go (cases_eq start.shape.nodes 1)
      (beat_cases x.body (subst (λ (of : BlockId). is_for of x.body ≡ true) to (takes_calmly h x comes.calm)))
    where
      go : (start.shape.nodes ≡ 1) ⊎ (start.shape.nodes ≢ 1) → (x.body ≡ Host Round) ⊎ (x.body ≡ Membership Heartbeat)
          → Next
      go (inl one) (inl is) =
          lone_next one
          (subst (λ t. HostRests start h 1 [] t)
          (sym
          (lone_round start h 1 x (none_beside start shape k low one) to is (after start h log) other alike comes
          (good.alone one)))
          (record { rests = good.alone one; sent = refl; marks = refl }))
      go (inl one) (inr is) =
          lone_next one
          (heartbeat_rests start h 1 (after start h log) other x (main_beats k) alike comes (good.alone one) is)
      go (inr many) (inl is) =
          let more : 2 ≤ start.shape.nodes = omega (arith, many, shape.nodes_some) in
          steady_round more (good.steady more) is
      go (inr many) (inr is) =
          let more : 2 ≤ start.shape.nodes = omega (arith, many, shape.nodes_some) in
          steady_beat more (good.steady more) is

-- a round of time is a request
tick_asked : (body : Body)
    → one_if (is_tick body) ≤ length (option_to_list (if is_request body then request_in body else None))
tick_asked (Host (Continue (Request (request.Tick round of)) at)) = omega arith
tick_asked body = omega arith

-- A step of the shell, which sends these and perhaps rounds.
module _ (start : Start) (base log : List HostStep) (e : HostStep) (sends : List Outgoing)
    (are : (step_after start 0 log e).effects.sends ≡ sends ++ besides start 0 e.step.taken.body)
    (plain : Each (IsPlainSend 0) sends) (fine : Each (IsFineSend start 0) sends)
    (ease : IsAtEase start (after start 0 (e ∷ log)).standing) (goes_on : stops_by e.step.marks ≡ false)
    (asked : is_asked e.host e.step.taken ≡ is_request e.step.taken.body) where
  abbrev tick : Bool
  tick = is_tick e.step.taken.body

  abbrev rounds : List Outgoing
  rounds = besides start 0 e.step.taken.body

  all_fine : Each (IsFineSend start 0) (sends ++ rounds)
  all_fine = each_append (IsFineSend start 0) sends rounds fine (besides_fine start e.step.taken.body)

  pub shell_since : NobodyStarts start → (j : ℕ) → IsSince start 0 j base log → IsSince start 0 j base (e ∷ log)
  shell_since nobody j since = since_next start nobody 0 log e ease goes_on (sends ++ rounds) are all_fine j base since

  one_each : (k : ℕ) → k < start.shape.nodes → tally (goes_to start (main_at k)) (sends ++ rounds) ≡ one_if tick
  one_each k low =
      omega (
        arith,
        tally_append (goes_to start (main_at k)) sends rounds,
        plain_none start 0 (main_at k) sends (main_low start k low) (main_beats k) plain fine,
        besides_one start k e.step.taken.body low,
      )

  asked_more : one_if tick + length (requests log) ≤ length (requests (e ∷ log))
  asked_more =
      omega (
        arith,
        length-append (requests log) (option_to_list (request_of e)),
        subst
            (λ (b : Bool).
            one_if tick ≤ length (option_to_list (if b then request_in e.step.taken.body else None)))
            (sym asked) (tick_asked e.step.taken.body),
      )

  pub shell_next : NobodyStarts start → IsShellSteady start base log → IsShellSteady start base (e ∷ log)
  shell_next nobody s =
      record {
        rounds = one_if tick + s.rounds;
        told = λ k low.
            omega (
              arith,
              s.told k low,
              one_each k low,
              sent_length start nobody 0 log e ease goes_on (sends ++ rounds) are all_fine (main_at k),
            );
        asked = omega (arith, s.asked, asked_more);
      }
