-- A calm step of a host that is near an inner one, where no closing is under way.
use Rattle.std.proofs.Common.{◌≡◌, ◌≤◌, ◌+◌, ℕ, zero, suc, List, [], ◌∷◌, ◌++◌, true, false, refl, ap, sym, ◌∙◌, subst}
use Rattle.std.specs.Prelude.{not}
use Rattle.std.proofs.lemmas.Bool.{false≢true, true≢false}
use Rattle.std.proofs.lemmas.List.Elements.{filter-append}
use Rattle.frag_map.specs.Replicas.{first_start}
use Rattle.frag_map.specs.Shape.{IsShape}
use Rattle.node_core.specs.Blocks.{api_of, has_api}
use Rattle.node_core.specs.declared.host.Host as plain_host
use Rattle.node_core.specs.declared.host.Host.TheVariants as plain_kind
use Rattle.node_core.specs.Row.{row}
use Rattle.node_views.specs.declared.host_body.HostBody as host
use Rattle.node_views.specs.declared.parts.Parts.{Parts}
use Rattle.node_views.specs.declared.parts.Parts.TheVariants.{Shell, Main, Tc, Ldm}
use Rattle.run_theory.proofs.Pasts.{each_after, each_append, each_before, each_map}
use Rattle.run_theory.specs.Lists.{Each}
use Rattle.sig_core.specs.declared.reply.ApiReply.{ApiReply}
use Rattle.sig_core.specs.Step.{Step}
use Rattle.api_block.specs.State.{ApiState}
use Rattle.world_core.proofs.HostNumbers.{api_runs}
use Rattle.world_core.specs.Machine as plain
use Rattle.world_core.specs.Machine.{last_stamp}
use Rattle.world_core.specs.Start.{NobodyStarts, Start}
use Rattle.world_core.specs.Steps.{HostStep}
use Rattle.world_views.specs.Machine.{after, replies_at, step_after, step_by, stops_by, told}
use Rattle.world_views.specs.Right.{replies_in}
use Rattle.calm_laws.specs.Alike.{AreAlike, ArePartsAlike}
use Rattle.calm_laws.specs.Plain.{is_beating}
use Rattle.calm_laws.specs.Steps.{ComesCalmly, IsForViews, IsPlainSend, StepAlike, StepAside, besides}
use Rattle.calm_laws.specs.Steps as calm
use Rattle.calm_laws.proofs.lives.Asked.{IsAskedAlike}
use Rattle.calm_laws.proofs.plain_steps.Parts.{main_parts_step, parts_step}
use Rattle.calm_laws.proofs.plain_steps.Rounds.{each_besides}
use Rattle.calm_laws.proofs.plain_steps.Shell.{shells_step}
use Rattle.level_laws.specs.Laws.{HostsAreLevel}
use Rattle.level_laws.specs.Levels.{host_at, host_sized}
use Rattle.level_laws.proofs.SizedRows.{sized_same}
use Rattle.peace_laws.specs.Alike.{AreNear, RestsOfClosings}
use Rattle.peace_laws.specs.Parts.{levelled, plain_part, plain_replies, shows}
use Rattle.peace_laws.proofs.closings.Signals.{calm_apart, not_closing}
use Rattle.peace_laws.proofs.near.MainNear.{master_kept, near_main}
use Rattle.peace_laws.proofs.near.Mirrored.{IsLeftOut, IsMirrored, IsPlainStep, level_same, level_step}
use Rattle.peace_laws.proofs.near.NearHosts.{has_main, main_beats, main_level, main_stays, near_alike}
use Rattle.peace_laws.proofs.near.NearHosts.{resting_main, resting_near}
use Rattle.peace_laws.proofs.plain.Answers.{ArePlainReplies, IsPlainReply, hosts_reply, replies_level, same_replies}
use Rattle.peace_laws.proofs.plain.Events.{none_part, part_next}
use Rattle.peace_laws.proofs.near.Seen.{IsSentFor, plain_send, round_send, views_send}
use Rattle.peace_laws.proofs.near.Sent.{rounds_aside}

-- only the shell replies
pub nothing_replied : (start : Start) (h : ℕ) (log : List HostStep) → replies_in start (suc h) log ≡ []
nothing_replied start h [] = refl
nothing_replied start h (e ∷ log) = ap (λ (replies : List ApiReply). replies ++ []) (nothing_replied start h log)

pub replies_next : (start : Start) (h : ℕ) (log : List HostStep) (e : HostStep)
    → plain_replies (replies_in start h (e ∷ log))
    ≡ plain_replies (replies_in start h log) ++ plain_replies (replies_at h (step_after start h log e))
replies_next start h log e =
    filter-append (λ (reply : ApiReply). not (shows reply)) (replies_in start h log)
    (replies_at h (step_after start h log e))

-- The inner host of a main part is one, and that of another host is none.
module _ (start : Start) (h : ℕ) (log : List HostStep) (before : IsMirrored start h log) where
  pub inner_main : has_main before.inner ≡ is_beating h
  inner_main =
      sym (main_level start.epoch before.inner) ∙ sym (level_same start h log before has_main (λ s. refl))
      ∙ main_beats start h (plain_part start h log)

api_level : (epoch : ℕ) (s : plain_host.Host) → has_api (host_at epoch s) ≡ has_api s
api_level epoch (plain_kind.Shell a) = refl
api_level epoch (plain_kind.Main m) = refl
api_level epoch (plain_kind.Tc p) = refl
api_level epoch (plain_kind.Ldm s) = refl

-- that of the shell's host has an API
pub inner_api : (start : Start) (log : List HostStep) (before : IsMirrored start 0 log) → has_api before.inner ≡ true
inner_api start log before =
    sym (api_level start.epoch before.inner) ∙ sym (level_same start 0 log before has_api (λ s. refl))
    ∙ api_runs start (plain_part start 0 log)

-- A step of a main part, which the plain part leaves out.
module _ (start : Start) (h : ℕ) (log : List HostStep) (e : HostStep) (beats : is_beating h ≡ true)
    (before : IsMirrored start h log) (rests : RestsOfClosings (after start h log).parts)
    (comes : ComesCalmly start h e.step.taken) where
  none_replied : (those : List HostStep) → plain_replies (replies_in start h those) ≡ []
  none_replied those = by h beats
    where
      by : (k : ℕ) → is_beating k ≡ true → plain_replies (replies_in start k those) ≡ []
      by zero beats = absurd (false≢true beats)
      by (suc k) beats = ap plain_replies (nothing_replied start k those)

  main_near : AreNear start [] (after start h log) before.inner
  main_near = subst (λ given. AreNear start given (after start h log) before.inner) (none_replied log) before.near

  main_alike : AreAlike start [] (after start h log) before.inner
  main_alike = near_alike start [] (after start h log) before.inner main_near rests

  main_aside : StepAside start h (after start h log) before.inner e.step.taken
  main_aside = main_parts_step start h (after start h log) before.inner e.step.taken beats main_alike comes

  main_resting : AreNear start [] (after start h (e ∷ log)) before.inner
      × RestsOfClosings (after start h (e ∷ log)).parts
  main_resting = by h beats (after start h log) comes main_near main_alike main_aside
    where
      by : (k : ℕ) → is_beating k ≡ true → (s : host.HostBody) → ComesCalmly start k e.step.taken
          → AreNear start [] s before.inner → AreAlike start [] s before.inner
          → StepAside start k s before.inner e.step.taken
          → AreNear start [] (told k (step_by k s e.step.taken)) before.inner
          × RestsOfClosings (told k (step_by k s e.step.taken)).parts
      by zero beats s comes near alike aside = absurd (false≢true beats)
      by (suc k) main s comes near alike aside =
          resting_main start [] (told (suc k) (step_by (suc k) s e.step.taken)) before.inner aside.alike
          (λ p is.
          master_kept start k s before.inner e.step.taken main alike comes
          (near_main start [] s.parts before.inner near.parts (inner_main start h log before ∙ beats)) p is)

  pub main_left : last_stamp log ≤ e.step.stamp → IsLeftOut start h log e before
  main_left later =
      record {
        out = none_part start h (e ∷ log) beats ∙ sym (none_part start h log beats);
        inner = before.inner;
        near =
            subst (λ given. AreNear start given (after start h (e ∷ log)) before.inner) (sym (none_replied (e ∷ log)))
            main_resting.0;
        same = refl;
        later = later;
        sends =
            each_map IsForViews (IsSentFor h) (step_after start h log e).effects.sends
            (λ sent views. views_send h sent beats views) main_aside.sends;
        links = λ j here takes. absurd (true≢false (sym beats ∙ here));
        counts = λ j here takes. absurd (true≢false (sym beats ∙ here));
        took = λ i here takes. absurd (true≢false (sym beats ∙ here));
        asked = λ here. absurd (true≢false (sym beats ∙ here));
      }

  pub main_rests : RestsOfClosings (after start h (e ∷ log)).parts
  main_rests = main_resting.1

  pub main_marks : (step_after start h log e).effects.marks ≡ []
  main_marks = main_aside.marks

-- what the API of an inner host replies, and what was replied besides
inner_replies : (epoch : ℕ) (s : plain_host.Host) → ArePlainReplies (api_of (host_at epoch s)).replies
    → ArePlainReplies (api_of s).replies
inner_replies epoch (plain_kind.Shell a) all = replies_level epoch a.replies all
inner_replies epoch (plain_kind.Main m) all = tt
inner_replies epoch (plain_kind.Tc p) all = tt
inner_replies epoch (plain_kind.Ldm s) all = tt

new_replies : (start : Start) (given more : List ApiReply) (parts : Parts) (s : plain_host.Host)
    → ArePartsAlike start (given ++ more) parts s → has_api s ≡ true → ArePlainReplies (api_of s).replies
    → ArePlainReplies more
new_replies start given more (Shell p) (plain_kind.Shell a) alike api all =
    each_after IsPlainReply given more
    (each_before IsPlainReply (given ++ more) p.client.api.replies
    (subst (λ (b : ApiState). ArePlainReplies b.replies) alike.1.1.1 all))
new_replies start given more (Main p) (plain_kind.Main m) alike api all = absurd (false≢true api)
new_replies start given more (Tc p) (plain_kind.Tc q) alike api all = absurd (false≢true api)
new_replies start given more (Ldm p) (plain_kind.Ldm s) alike api all = absurd (false≢true api)
new_replies start given more parts s alike api all = absurd alike

-- A step of another host, which its plain one makes too.
module _ (hosts_level : HostsAreLevel) (start : Start) (shape : IsShape start.shape) (h : ℕ) (log : List HostStep)
    (e : HostStep) (here : is_beating h ≡ false) (before : IsMirrored start h log)
    (rests : RestsOfClosings (after start h log).parts) (comes : ComesCalmly start h e.step.taken) where
  abbrev given : List ApiReply
  given = plain_replies (replies_in start h log)

  abbrev more : List ApiReply
  more = replies_at h (step_after start h log e)

  now_alike : AreAlike start given (after start h log) before.inner
  now_alike = near_alike start given (after start h log) before.inner before.near rests

  pub part_alike : StepAlike start h given (after start h log) before.inner e.step.taken
  part_alike = by h here log before now_alike comes
    where
      by : (k : ℕ) → is_beating k ≡ false → (log : List HostStep) (before : IsMirrored start k log)
          → AreAlike start (plain_replies (replies_in start k log)) (after start k log) before.inner
          → ComesCalmly start k e.step.taken
          → StepAlike start k (plain_replies (replies_in start k log)) (after start k log) before.inner e.step.taken
      by zero here log before alike comes =
          shells_step start (plain_replies (replies_in start 0 log)) (after start 0 log) before.inner e.step.taken shape
          (inner_api start log before) alike comes
      by (suc k) here log before alike comes =
          subst (λ those. StepAlike start (suc k) those (after start (suc k) log) before.inner e.step.taken)
          (sym (ap plain_replies (nothing_replied start k log)))
          (parts_step start k (after start (suc k) log) before.inner e.step.taken here
          (subst (λ those. AreAlike start those (after start (suc k) log) before.inner)
          (ap plain_replies (nothing_replied start k log)) alike)
          comes)

  -- what was replied is what the plain machine replies, but for views
  api_next : (k : ℕ) → k ≡ 0 → (those : List HostStep) → has_api (plain.after start k those) ≡ true
  api_next k is those = subst (λ j. has_api (plain.after start j those) ≡ true) (sym is) (api_runs start those)

  abbrev plain_next : plain_host.Host
  plain_next = plain.after start h (levelled start.epoch e ∷ plain_part start h log)

  next_level : host_sized plain_next
      ≡ host_at start.epoch (row before.inner e.step.taken).state
  next_level = ap (λ (s : Step plain_host.Host). s.state) (level_step hosts_level start h log e before)

  same : plain_replies more ≡ calm.plain_replies more
  same = by h refl
    where
      by : (k : ℕ) → h ≡ k → plain_replies more ≡ calm.plain_replies more
      by zero is =
          same_replies more
          (new_replies start given (calm.plain_replies more) (after start h (e ∷ log)).parts
          (row before.inner e.step.taken).state part_alike.alike.parts
          (sym (api_level start.epoch (row before.inner e.step.taken).state)
          ∙ ap has_api (sym next_level) ∙ sized_same has_api (λ s. refl) plain_next
          ∙ api_next h is (levelled start.epoch e ∷ plain_part start h log))
          (inner_replies start.epoch (row before.inner e.step.taken).state
          (subst (λ s. ArePlainReplies (api_of s).replies) next_level
          (subst ArePlainReplies (sym (sized_same (λ s. (api_of s).replies) (λ s. refl) plain_next))
          (hosts_reply start h (levelled start.epoch e ∷ plain_part start h log))))))
      by (suc k) is =
          let none : more ≡ [] = ap (λ j. replies_at j (step_after start h log e)) is in
          ap plain_replies none ∙ sym (ap calm.plain_replies none)

  part_resting : AreNear start (given ++ calm.plain_replies more) (after start h (e ∷ log))
      (row before.inner e.step.taken).state
      × RestsOfClosings (after start h (e ∷ log)).parts
  part_resting =
      resting_near start (given ++ calm.plain_replies more) (after start h (e ∷ log))
      (row before.inner e.step.taken).state part_alike.alike
      (main_stays before.inner e.step.taken ∙ inner_main start h log before ∙ here)

  pub part_rests : RestsOfClosings (after start h (e ∷ log)).parts
  part_rests = part_resting.1

  pub part_step : NobodyStarts start → (marks : e.step.marks ≡ (step_after start h log e).effects.marks)
      → IsAskedAlike e
      → IsPlainStep start h log e before
  part_step nobody marks asked =
      record {
        part = part_next start h log e here
            (not_closing h e.step.taken (calm_apart h e.step.taken comes.calm));
        near =
            subst
            (λ those. AreNear start those (after start h (e ∷ log)) (row before.inner e.step.taken).state)
            (ap (λ those. given ++ those) (sym same) ∙ sym (replies_next start h log e)) part_resting.0;
        goes_on = ap stops_by (marks ∙ part_alike.marks) ∙ part_alike.goes_on;
        extra = besides start h e.step.taken.body;
        sends = part_alike.sends;
        plain_ones = part_alike.plain;
        aside =
            rounds_aside start nobody h (after start h (e ∷ log)).standing part_alike.alike.standing e.step.taken.body;
        for_all =
            subst (Each (IsSentFor h)) (sym part_alike.sends)
            (each_append (IsSentFor h) (row before.inner e.step.taken).effects.sends
            (besides start h e.step.taken.body)
            (each_map (IsPlainSend h) (IsSentFor h) (row before.inner e.step.taken).effects.sends
            (λ sent is. plain_send h sent here is) part_alike.plain)
            (each_besides (IsSentFor h) start h e.step.taken.body
            (λ k low. round_send h (first_start (k + 1)) here)));
        asked = asked;
      }
