-- A step of a run in which a closing is under way goes from one moment of the closing to the next, and the run is kept.
use Rattle.std.proofs.Common.{◌≡◌, ◌≢◌, ◌⊎◌, ◌<◌, ◌≤◌, inl, inr, ℕ, zero, suc, List, [], ◌∷◌, ◌++◌, true, false}
use Rattle.std.proofs.Common.{refl, ap, sym, ◌∙◌, subst, append-nil, map}
use Rattle.std.specs.List.{list_any}
use Rattle.std.proofs.lemmas.Bool.{and_from, cases_eq, cases_lt}
use Rattle.frag_map.specs.Shape.{IsShape}
use Rattle.node_views.specs.Blocks.{parts_row}
use Rattle.node_views.specs.Row.{with_parts}
use Rattle.node_views.specs.WellFormed.{is_well_formed}
use Rattle.node_views.specs.declared.host_body.HostBody as host
use Rattle.node_views.specs.declared.parts.Parts.{Parts}
use Rattle.run_theory.proofs.Pasts.{each_from, each_map}
use Rattle.run_theory.proofs.Runs.{log_of-other, log_of-own}
use Rattle.run_theory.specs.Links.{sent, taken}
use Rattle.run_theory.specs.Lists.{Each, IsIn, IsPast}
use Rattle.run_theory.specs.Runs.{IsWithin, Run, log_of}
use Rattle.run_theory.proofs.EventCases.{event_cases}
use Rattle.sig_core.specs.declared.outs.Outgoing.{Outgoing}
use Rattle.sig_core.specs.declared.reply.ApiReply.{ApiReply}
use Rattle.sig_core.specs.declared.signal.Signal.{Signal}
use Rattle.sig_core.specs.Step.{Step}
use Rattle.world_core.specs.Hosts.{host_for, first_hosts, member_at}
use Rattle.world_core.specs.Start.{NobodyStarts, Start, made}
use Rattle.world_core.specs.Steps.{HostStep}
use Rattle.world_views.specs.Machine.{after, has_stopped, machine, replies_at, step_after, step_by, stops_by, told}
use Rattle.world_views.specs.Right.{replies_in}
use Rattle.world_views.specs.Sending.{is_asked, is_own_work}
use Rattle.calm_laws.specs.Alike.{IsAtEase}
use Rattle.calm_laws.proofs.lives.Arrivals.{arriving}
use Rattle.calm_laws.proofs.lives.Events.{host_there, none_before, within_before}
use Rattle.calm_laws.proofs.lives.FirstMembers.{first_fine}
use Rattle.calm_laws.proofs.lives.Arrivals.{given_running}
use Rattle.level_laws.specs.Laws.{HostsAreLevel}
use Rattle.peace_laws.specs.Laws.{is_spent}
use Rattle.peace_laws.specs.Moments.{IsTaken, Moment, Takes, behind, told_by}
use Rattle.peace_laws.specs.Parts.{plain_replies}
use Rattle.peace_laws.specs.Peace.{has_closer, is_closing, is_for_closing}
use Rattle.peace_laws.specs.Steps.{ComesForClosing, IsOfClosing, StepsNear}
use Rattle.peace_laws.proofs.lives.Arrivals.{closing_comes, seen}
use Rattle.peace_laws.proofs.closings.Marks.{does, goes_on, step_marks}
use Rattle.peace_laws.proofs.closings.Next.{closing_next}
use Rattle.peace_laws.proofs.closings.Signals.{closing_given}
use Rattle.peace_laws.proofs.closings.Steps.{closings_step_near}
use Rattle.peace_laws.proofs.closings.Letters.{IsFit}
use Rattle.peace_laws.proofs.closings.MasterNear.{IsClosingMark}
use Rattle.peace_laws.proofs.near.Mirrored.{IsMirrored}
use Rattle.peace_laws.proofs.lives.NextSignals.{AllTaken}
use Rattle.peace_laws.proofs.near.Runs.{IsKept}
use Rattle.peace_laws.proofs.near.Seen.{IsSeen}
use Rattle.peace_laws.proofs.lives.UnderWay.{OnLink, SentOn, TakenOn, others, said, sent_next, taken_next, there}

-- what is under way on each link, since these logs
abbrev pub Links : Start → (ℕ → List HostStep) → List HostStep → Type 0
Links start base es =
    (i j : ℕ) → OnLink start base i j (log_of (machine start) es i) (log_of (machine start) es j)

-- the moment after these events
abbrev pub moment : (start : Start) (base : ℕ → List HostStep) (es : List HostStep) → Links start base es → Moment
moment start base es links =
    record {
      parts = λ h. (after start h (log_of (machine start) es h)).parts;
      under_way = λ i j. map said (links i j).under;
      replies = replies_in start 0 (log_of (machine start) es 0);
    }

-- a host behind a step of its parts, and what was told
told_is : (k : ℕ) (s : host.HostBody) (t : Step Parts) → (told k (with_parts s t)).parts ≡ behind k t.state
told_is zero s t = refl
told_is (suc k) s t = refl

told_none : (k : ℕ) (parts : Parts) → k ≢ 0 → told_by k parts ≡ []
told_none zero parts apart = absurd (apart refl)
told_none (suc k) parts apart = refl

-- what is sent of closings is nothing that a host asks of itself
given_sends : (k : ℕ) (sends : List Outgoing) → Each (IsOfClosing k) sends
    → Each (λ (one : Outgoing). is_own_work one.body ≡ false) sends
given_sends zero sends all =
    each_map (IsOfClosing 0) _ sends (λ one of. closing_given one.to.block one.body of) all
given_sends (suc k) sends all =
    each_map (IsOfClosing (suc k)) _ sends (λ one of. closing_given one.to.block one.body of.0) all

in_back : (one : Outgoing) (front : List Outgoing) → IsIn one (front ++ one ∷ [])
in_back one [] = inl refl
in_back one (first ∷ front) = inr (in_back one front)

-- One more step, which nobody asked for, where all that is under way fits.
module _ (hosts_level : HostsAreLevel) (start : Start) (shape : IsShape start.shape) (base : ℕ → List HostStep)
    (all : AllTaken start base) (es : List HostStep) (e : HostStep) (run : Run (machine start) (e ∷ es))
    (within_now : IsWithin (first_hosts start) (log_of (machine start) (e ∷ es))) (kept : IsKept start es)
    (running : (h : ℕ) → has_stopped (log_of (machine start) es h) ≡ false)
    (unasked : is_asked e.host e.step.taken ≡ false) (unspent : list_any is_spent e.step.marks ≡ false)
    (links : Links start base es)
    (fit : (i h : ℕ) (one : Outgoing) → IsIn one (map said (links i h).under) → IsFit start i h one) where
  abbrev pub h : ℕ
  h = e.host

  abbrev pub x : Signal
  x = e.step.taken

  abbrev pub i : ℕ
  i = x.from.0

  abbrev pub log : ℕ → List HostStep
  log k = log_of (machine start) es k

  within : IsWithin (first_hosts start) (log_of (machine start) es)
  within = within_before start (first_hosts start) e es within_now

  pub low : h < first_hosts start
  low = host_there start (first_hosts start) e es within_now

  given : IsPast (arriving h x ∷ taken (machine start) i (log h)) (sent (machine start) i h (log i))
  given =
      given_running start i h (log i) (arriving h x ∷ taken (machine start) i (log h)) (running i)
      (run.1.takes unasked)

  from_low : i < first_hosts start
  from_low = go (cases_lt i (first_hosts start))
    where
      go : (i < first_hosts start) ⊎ (first_hosts start ≤ i) → i < first_hosts start
      go (inl under) = under
      go (inr above) =
          absurd
          (cc (none_before (arriving h x ∷ taken (machine start) i (log h)) (sent (machine start) i h (log i)) given
          (ap (sent (machine start) i h) (within i above))))

  took : taken (machine start) i (base h) ≡ sent (machine start) i h (base i)
  took = all i h from_low low

  abbrev one : Outgoing
  one = said (arriving h x)

  abbrev rest : List Outgoing
  rest = others start base es e links unasked took given

  is_there : map said (links i h).under ≡ rest ++ one ∷ []
  is_there = there start base es e links unasked took given

  pub one_under : IsIn one (map said (links i h).under)
  one_under = subst (IsIn one) (sym is_there) (in_back one rest)

  pub fits : IsFit start i h one
  fits = fit i h one one_under

  is_seen : IsSeen start i (arriving h x)
  is_seen = seen start es h x within kept.mirrored fits.open_link (run.1.takes unasked)

  pub member_is : x.member ≡ member_at (made start) i
  member_is = is_seen.member

  pub for_closing : is_for_closing x.to.block x.body ≡ true
  for_closing = fits.closing is_seen.send

  pub closing : is_closing h x ≡ true
  closing =
      and_from (has_closer h x.to.block) (is_for_closing x.to.block x.body) fits.block for_closing

  sound : is_well_formed start.shape x ≡ true
  sound = first_fine start i x from_low is_seen.view is_seen.member fits.sound

  comes : ComesForClosing start h x
  comes = closing_comes start es h x within kept.mirrored closing (run.1.takes unasked) sound

  abbrev pub s : host.HostBody
  s = after start h (log h)

  abbrev before : IsMirrored start h (log h)
  before = kept.mirrored h

  abbrev replied : List ApiReply
  replied = plain_replies (replies_in start h (log h))

  unspent_step : list_any is_spent (step_by h s x).effects.marks ≡ false
  unspent_step = sym (ap (list_any is_spent) run.1.step.fits.marks) ∙ unspent

  goes : stops_by (step_by h s x).effects.marks ≡ false
  goes = goes_on start h replied s before.inner x before.near comes unspent_step

  pub goes_now : stops_by e.step.marks ≡ false
  goes_now = ap stops_by run.1.step.fits.marks ∙ goes

  pub marks_now : Each IsClosingMark e.step.marks
  marks_now =
      subst (Each IsClosingMark) (sym run.1.step.fits.marks)
      (step_marks start h replied s before.inner x before.near comes)

  pub kept_now : NobodyStarts start → IsKept start (e ∷ es)
  kept_now nobody =
      closing_next hosts_level start shape es e run.1 within low kept closings_step_near closing sound goes_now nobody

  -- the host does what its parts do
  pub blocks : step_by h s x ≡ with_parts s (parts_row s.parts x)
  blocks = does start h replied s before.inner x before.near comes unspent_step

  pub parts_now : (after start h (log_of (machine start) (e ∷ es) h)).parts ≡ behind h (parts_row s.parts x).state
  parts_now =
      ap (λ (those : List HostStep). (after start h those).parts) (log_of-own (machine start) e es h refl)
      ∙ ap (λ (t : Step host.HostBody). (told h t).parts) blocks
      ∙ told_is h s (parts_row s.parts x)

  pub parts_stay : (k : ℕ) → k ≢ h
      → (after start k (log_of (machine start) (e ∷ es) k)).parts ≡ (after start k (log k)).parts
  parts_stay k apart =
      ap (λ (those : List HostStep). (after start k those).parts)
      (log_of-other (machine start) e es k (λ same. apart (sym same)))

  abbrev Told : ℕ → Type 0
  Told k =
      replies_in start 0 (log_of (machine start) (e ∷ es) 0)
      ≡ replies_in start 0 (log 0) ++ told_by k (parts_row (after start k (log k)).parts x).state

  replies_now : Told h
  replies_now = go (cases_eq h 0)
    where
      go : (h ≡ 0) ⊎ (h ≢ 0) → Told h
      go (inl at) =
          subst Told (sym at)
          (ap (replies_in start 0) (log_of-own (machine start) e es 0 at)
          ∙ ap (λ (t : Step host.HostBody). replies_in start 0 (log 0) ++ replies_at 0 t)
          (subst
          (λ k. step_by k (after start k (log k)) x
          ≡ with_parts (after start k (log k)) (parts_row (after start k (log k)).parts x)) at blocks))
      go (inr apart) =
          ap (replies_in start 0) (log_of-other (machine start) e es 0 apart)
          ∙ sym (append-nil (replies_in start 0 (log 0)))
          ∙ ap (λ (more : List ApiReply). replies_in start 0 (log 0) ++ more)
          (sym (told_none h (parts_row s.parts x).state apart))

  -- what it sends
  ease : NobodyStarts start → IsAtEase start (after start h (e ∷ log h)).standing
  ease nobody =
      subst (λ (those : List HostStep). IsAtEase start (after start h those).standing)
      (log_of-own (machine start) e es h refl) ((kept_now nobody).mirrored h).near.standing

  abbrev sends : List Outgoing
  sends = (parts_row s.parts x).effects.sends

  sends_are : (step_after start h (log h) e).effects.sends ≡ sends
  sends_are = ap (λ (t : Step host.HostBody). t.effects.sends) blocks

  near_step : StepsNear start h replied s before.inner x
  near_step = closings_step_near start h replied s before.inner x before.near comes goes

  own_none : Each (λ (one : Outgoing). is_own_work one.body ≡ false) sends
  own_none =
      given_sends h sends (subst (Each (IsOfClosing h)) sends_are near_step.sends)

  mids : (a b : ℕ)
      → TakenOn start base i h one rest a b (map said (links a b).under) (log a)
      (log_of (machine start) (e ∷ es) b)
  mids = taken_next start base es e links unasked took given

  nexts : NobodyStarts start → (a b : ℕ)
      → SentOn start base h sends a b (map said (mids a b).link.under) (log_of (machine start) (e ∷ es) a)
      (log_of (machine start) (e ∷ es) b)
  nexts nobody =
      sent_next start base es e nobody (λ a b. (mids a b).link) goes_now (ease nobody) sends sends_are own_none

  pub links_now : NobodyStarts start → Links start base (e ∷ es)
  links_now nobody a b = (nexts nobody a b).link

  pub takes : (nobody : NobodyStarts start)
      → Takes start (moment start base es links) (moment start base (e ∷ es) (links_now nobody))
  unfolding links_now
  takes nobody =
      record {
        sender = i;
        host = h;
        sent = one;
        rest = rest;
        x = x;
        says = record {
          from = refl;
          member = is_seen.member;
          to = refl;
          view = is_seen.view;
          body = refl;
        };
        there = is_there;
        own = parts_now;
        others = parts_stay;
        told = replies_now;
        keeps = λ a b other is. keeps a b other ((mids a b).keeps other is);
        sends =
            each_from (λ (other : Outgoing). IsIn other (map said (links_now nobody h (host_for start other.to)).under))
            sends
            (λ other is. (nexts nobody h (host_for start other.to)).puts other is refl refl);
        only = λ a b other is. only a b other ((nexts nobody a b).only other is);
      }
    where
      keeps : (a b : ℕ) (other : Outgoing)
          → IsIn other (map said (mids a b).link.under) ⊎ IsTaken i h one a b other
          → IsIn other (map said (links_now nobody a b).under) ⊎ IsTaken i h one a b other
      keeps a b other (inl is) = inl ((nexts nobody a b).keeps other is)
      keeps a b other (inr is) = inr is

      only : (a b : ℕ) (other : Outgoing)
          → IsIn other (map said (mids a b).link.under)
          ⊎ ((a ≡ h) × ((b ≡ host_for start other.to) × IsIn other sends))
          → (IsIn other (map said (links a b).under) × (a ≡ i → b ≡ h → IsIn other rest))
          ⊎ ((a ≡ h) × ((b ≡ host_for start other.to) × IsIn other sends))
      only a b other (inl is) = inl ((mids a b).only other is)
      only a b other (inr is) = inr is

  pub running_now : (k : ℕ) → has_stopped (log_of (machine start) (e ∷ es) k) ≡ false
  running_now k =
      event_cases (machine start) e es k (λ log. has_stopped log ≡ false) (λ at. goes_now) (λ apart. running k)
