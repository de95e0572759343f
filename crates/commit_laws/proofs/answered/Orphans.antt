-- Where a takeover that commits a transaction has heard of as many commits as it has keys, each of these was committed
-- in its view: it commits no other keys, and no other host commits any of them there.
use Rattle.std.proofs.Common.{◌≡◌, ◌≢◌, ◌≤◌, ◌⊎◌, ◌==◌, ◌&&◌, ◌||◌, ◌∙◌, ℕ, zero, suc, Bool, true, false, List, [], ◌∷◌}
use Rattle.std.proofs.Common.{inl, inr, length, map, refl, sym, ap, arith, subst}
use Rattle.std.proofs.lemmas.Bool.{and_parts, cases_eq, true≢false}
use Rattle.std.specs.List.{flat_map}
use Rattle.std.specs.Prelude.{not, slice_get, Some}
use Rattle.run_theory.specs.Lists.{Each, IsIn}
use Rattle.run_theory.proofs.Pasts.{each_map}
use Rattle.run_theory.proofs.Runs.{log_of-own}
use Rattle.host_laws.proofs.hosts.Sums.{total_at}
use Rattle.sig_core.specs.declared.member.Member.{Member}
use Rattle.sig_core.specs.declared.member.TxId.{TxId}
use Rattle.sig_core.specs.declared.outs.Outgoing.{Outgoing}
use Rattle.sig_core.specs.declared.signal.Body.{Body}
use Rattle.sig_core.specs.declared.signal.Body.TheVariants.{Chain}
use Rattle.sig_core.specs.declared.signal.chain.ChainSignal.TheVariants.{Commit}
use Rattle.sig_core.specs.declared.view.View.{View}
use Rattle.sig_core.specs.Same.{same_key, same_tx}
use Rattle.sig_core.proofs.Keys.{same_key-self, same_tx-self}
use Rattle.frag_map.specs.Layout.{Layout}
use Rattle.lqh_block.specs.Views.{is_coordinated}
use Rattle.row_records.proofs.KeyLemmas.{same as same_key-is}
use Rattle.takeover_block.specs.declared.gathered.Gathered.{Gathered}
use Rattle.takeover_block.specs.declared.stage.Stage.{Stage}
use Rattle.takeover_block.specs.declared.stage.Stage.TheVariants.{Committing, Resting}
use Rattle.takeover_block.specs.Keys.{has_key}
use Rattle.takeover_block.specs.Rule.{is_at_work}
use Rattle.takeover_block.specs.Sends.{front_sends, key_sends, stage_sends}
use Rattle.takeover_block.specs.State.{TakeoverState}
use Rattle.tc_block.specs.declared.touched.Touched.{Touched}
use Rattle.tc_block.specs.Complete.{one_if}
use Rattle.world_core.specs.Hosts.{hosts}
use Rattle.world_core.specs.Start.{Start, made}
use Rattle.world_core.specs.Steps.{HostStep}
use Rattle.world_views.specs.Machine.{machine}
use Rattle.view_laws.specs.Runs.{WasInstalled, view_after}
use Rattle.view_laws.proofs.runs.AllSound.{have_orderly}
use Rattle.view_laws.proofs.runs.ChosenViews.{one_view}
use Rattle.view_laws.proofs.runs.Headers.{installed_at}
use Rattle.moment_laws.specs.Moments.{IsMoment, logs_of}
use Rattle.moment_laws.specs.Places.{tc_of}
use Rattle.moment_laws.proofs.MomentHosts.{tc_low}
use Rattle.moment_laws.proofs.MomentViews.{moment_less}
use Rattle.outcome_laws.specs.Counts.{count_sent}
use Rattle.outcome_laws.proofs.coordinators.Lists.{count_both}
use Rattle.request_laws.specs.Blocks.{takeover_after}
use Rattle.request_laws.specs.Tokens.{all_sent, sent_along, taken_along}
use Rattle.request_laws.proofs.orphans.TakeoversOfOrphans.{takeovers_are_of_orphans}
use Rattle.request_laws.proofs.tokens.SumsOverHosts.{takes_before}
use Rattle.request_laws.proofs.tokens.FirstInView.{total_of_zero}
use Rattle.commit_laws.specs.Answered.{WasCommittedIn}
use Rattle.commit_laws.specs.Once.{owners_sent}
use Rattle.commit_laws.proofs.answered.Counts.{among, each_told, outside, told, told_rows}
use Rattle.commit_laws.proofs.answered.Told.{WasSent, sent_some, told_sent}
use Rattle.commit_laws.proofs.drive.Kinds.{committing, goes, numbered}
use Rattle.commit_laws.proofs.drive.Lists.{any, mine, only, taken_less}
use Rattle.commit_laws.proofs.drive.Moments.{told_few}
use Rattle.commit_laws.proofs.drive.Once.{all_once}
use Rattle.commit_laws.proofs.drive.Ordered.{ruled, takeovers_drive_once}
use Rattle.commit_laws.proofs.drive.Ruled.{IsRuled, is_order}
use Rattle.commit_laws.proofs.drive.Rulings.{IsAt, Rules, awaits, rests, works}
use Rattle.commit_laws.proofs.drive.Stages.{front_none, key_count}
use Rattle.commit_laws.proofs.gathering.Alone.{two_low}
use Rattle.commit_laws.proofs.hosts.Counted.{sent_counted}
use Rattle.commit_laws.proofs.orders.Together.{orders_once}

-- keys, as those that a transaction has touched
abbrev touch : List ℕ → Touched
touch key = record { key = key; chain = []; written = true }

touched_all : (keys : List (List ℕ)) → length (map touch keys) ≡ length keys
touched_all [] = refl
touched_all (key ∷ keys) = ap suc (touched_all keys)

touched_among : (keys : List (List ℕ)) (key : List ℕ) → among (map touch keys) key ≡ has_key keys key
touched_among [] key = refl
touched_among (own ∷ keys) key = ap (λ b. same_key key own || b) (touched_among keys key)

of_touched : (P : List ℕ → Type 0) (keys : List (List ℕ)) → Each (λ (u : Touched). P u.key) (map touch keys)
    → Each P keys
of_touched P [] all = tt
of_touched P (key ∷ keys) all = (all.0, of_touched P keys all.1)

-- where a commit was sent of a transaction, it was sent of a key
record OfKey (start : Start) (number : ℕ) (tx : TxId) (wk : List ℕ → Bool) (h : ℕ) (log : List HostStep) : Type 0 where
  key : List ℕ
  passes : wk key ≡ true
  sent : 1 ≤ sent_along start (numbered number (goes committing (mine tx (only key)))) h log

of_key : (start : Start) (number : ℕ) (tx : TxId) (wk : List ℕ → Bool) (h : ℕ) (log : List HostStep)
    → 1 ≤ sent_along start (numbered number (goes committing (mine tx wk))) h log → OfKey start number tx wk h log
of_key start number tx wk h log some = by own.signal.signal.body refl parts.0
  where
    own : WasSent start (numbered number (goes committing (mine tx wk))) h log
    own = sent_some start (numbered number (goes committing (mine tx wk))) h log some

    parts : (goes committing (mine tx wk) own.signal.signal.body ≡ true)
        × ((own.signal.signal.view.number == number) ≡ true)
    parts =
        and_parts (goes committing (mine tx wk) own.signal.signal.body) (own.signal.signal.view.number == number) own.is

    both : (a b c : Bool) → a ≡ true → b ≡ true → c ≡ true → ((a && b) && c) ≡ true
    both true true true e f g = refl
    both false b c e f g = absurd (true≢false (sym e))
    both true false c e f g = absurd (true≢false (sym f))
    both true true false e f g = absurd (true≢false (sym g))

    by : (body : Body) → own.signal.signal.body ≡ body → goes committing (mine tx wk) body ≡ true
        → OfKey start number tx wk h log
    by (Chain (Commit one key epoch chain at)) is passes =
        let both_are = and_parts (same_tx one tx) (wk key) passes in
        record {
          key = key;
          passes = both_are.1;
          sent =
              sent_counted start (numbered number (goes committing (mine tx (only key)))) h own.to_host log own.signal
              own.there
              (ap (λ (b : Body). goes committing (mine tx (only key)) b && (own.signal.signal.view.number == number)) is
              ∙ both (same_tx one tx) (same_key key key) (own.signal.signal.view.number == number) both_are.0
              (same_key-self key) parts.1);
        }
    by body is passes = absurd (true≢false (sym passes))

-- of keys that aren't among those of a transaction none is in its list
module _ (layout : Layout) (g : Gathered) (key : List ℕ) (stage : Stage) where
  abbrev counted : List (List ℕ) → ℕ
  counted keys = count_sent (goes committing (mine g.tx (only key))) (flat_map (key_sends layout g.tx stage) keys)

  none_for : (keys : List (List ℕ)) → has_key keys key ≡ false → counted keys ≡ 0
  none_for [] off = refl
  none_for (u ∷ keys) off = by (same_key key u) (has_key keys key) refl off (none_for keys)
    where
      apart : same_key key u ≡ false → (b : Bool) → same_key u key ≡ b → b ≡ false
      apart not_same false e = refl
      apart not_same true e =
          absurd (true≢false (sym (same_key-self key) ∙ (ap (same_key key) (sym (same_key-is u key e)) ∙ not_same)))

      one_off : (a b : Bool) → b ≡ false → one_if (a && b) ≡ 0
      one_off true true e = absurd (true≢false e)
      one_off true false e = refl
      one_off false b e = refl

      by : (a b : Bool) → same_key key u ≡ a → (a || b) ≡ false
          → (b ≡ false → counted keys ≡ 0) → counted (u ∷ keys) ≡ 0
      by true b e off rest = absurd (true≢false off)
      by false b e off rest =
          omega (
            arith,
            count_both (λ (o : Outgoing). goes committing (mine g.tx (only key)) o.body) (key_sends layout g.tx stage u)
                (flat_map (key_sends layout g.tx stage) keys),
            key_count layout g committing (mine g.tx (only key)) stage u,
            one_off (same_tx g.tx g.tx) (same_key u key) (apart e (same_key u key) refl),
            rest off,
          )

  none_listed : has_key g.keys key ≡ false
      → count_sent (goes committing (mine g.tx (only key))) (stage_sends layout stage g) ≡ 0
  unfolding stage_sends
  none_listed off =
      omega (
        arith,
        count_both (λ (o : Outgoing). goes committing (mine g.tx (only key)) o.body) (front_sends g.tx stage)
            (flat_map (key_sends layout g.tx stage) g.keys),
        front_none layout g committing (mine g.tx (only key)) stage,
        none_for g.keys off,
      )

-- the first of these
record Starts (gs : List Gathered) (g : Gathered) : Type 0 where
  rest : List Gathered
  is : gs ≡ g ∷ rest

starts : (gs : List Gathered) (g : Gathered) → slice_get gs 0 ≡ Some g → Starts gs g
starts [] g is = absurd cc
starts (h ∷ rest) g is = let same : h ≡ g = cc in record { rest = rest; is = ap (λ (v : Gathered). v ∷ rest) same }

module _ (start : Start) (all : ℕ → List HostStep) (e : HostStep) (es : List HostStep)
    (moment : IsMoment start all (e ∷ es)) (member : Member) (there : IsIn member (made start))
    (at : e.host ≡ tc_of start member) (g : Gathered) (epoch awaited : ℕ)
    (first : slice_get (takeover_after start member (logs_of start es (tc_of start member))).gathered 0 ≡ Some g)
    (works_so : (takeover_after start member (logs_of start es (tc_of start member))).stage ≡ Committing epoch awaited)
  where
    abbrev old : ℕ → List HostStep
    old = logs_of start es

    abbrev h : ℕ
    h = tc_of start member

    abbrev log : List HostStep
    log = logs_of start es (tc_of start member)

    abbrev s : TakeoverState
    s = takeover_after start member (logs_of start es (tc_of start member))

    abbrev stood : View
    stood = view_after start (tc_of start member) (logs_of start es (tc_of start member))

    abbrev n : ℕ
    n = (view_after start (tc_of start member) (logs_of start es (tc_of start member))).number

    abbrev tx : TxId
    tx = g.tx

    less : IsMoment start all es
    less = moment_less start all e es moment

    begins : Starts s.gathered g
    begins = starts s.gathered g first

    -- in the view in which it stands the coordinator of the transaction isn't full
    orphan : is_coordinated stood.full tx ≡ false
    orphan =
        (subst (Each (λ (g : Gathered). is_coordinated stood.full g.tx ≡ false)) begins.is
        ((takeovers_are_of_orphans start all es less).gathered member there)).0

    stood_installed : WasInstalled start all stood
    stood_installed = installed_at start moment.cluster.nobody all h (tc_low start moment.cluster.nobody member there)
        log (less.inside h)

    left : (view : View) → WasInstalled start all view → view.number ≡ n → is_coordinated view.full tx ≡ false
    left view was same =
        ap (λ (v : View). is_coordinated v.full tx)
        (one_view have_orderly start all moment.cluster view stood was stood_installed same)
        ∙ orphan

    ruled_at : (key : List ℕ) (me : Member) → IsIn me (made start)
        → IsRuled start me tx key n (tc_of start me) (logs_of start es (tc_of start me))
    ruled_at key me among_made = ruled orders_once start all tx key n left es less me among_made

    abbrev orders_at : ℕ → ℕ
    orders_at k = taken_along start (numbered n is_order) (old k)

    -- it was ordered, as it doesn't rest
    own_ordered : 1 ≤ orders_at h
    own_ordered = by (cases_eq (orders_at h) 0)
      where
        by : (orders_at h ≡ 0) ⊎ (orders_at h ≢ 0) → 1 ≤ orders_at h
        by (inl none) =
            let idle = ((ruled_at [] member there).now refl).idle none in
            absurd (let both : Resting ≡ Committing epoch awaited = sym idle ∙ works_so in cc)
        by (inr some) = omega (arith, some)

    -- of other keys it has sent none
    own_none : (key : List ℕ) → has_key g.keys key ≡ false
        → sent_along start (numbered n (goes committing (mine tx (only key)))) h log ≡ 0
    own_none key off = by ((ruled_at key member there).now refl).rules
      where
        at_work : is_at_work s.stage ≡ true
        at_work = ap is_at_work works_so

        by : Rules tx key s (λ drive. sent_along start (numbered n (goes drive (mine tx (only key)))) h log)
            → sent_along start (numbered n (goes committing (mine tx (only key)))) h log ≡ 0
        by (awaits resting none) = absurd (true≢false (sym at_work ∙ resting))
        by (rests resting few) = absurd (true≢false (sym at_work ∙ ap is_at_work resting))
        by (works on g_too rest is own) =
            omega (
              arith,
              listed.0.few,
              taken_less (λ (o : Outgoing). goes committing (mine tx (only key)) o.body) listed.0.place
                  (stage_sends s.layout (Committing epoch awaited) g),
              none_listed s.layout g key (Committing epoch awaited) off,
            )
          where
            same : g_too ≡ g
            same = let both : g_too ∷ rest ≡ g ∷ begins.rest = sym is ∙ begins.is in cc

            listed : IsAt tx key s.layout (Committing epoch awaited) s.left g
                (λ drive. sent_along start (numbered n (goes drive (mine tx (only key)))) h log)
            listed =
                subst
                (λ (stage : Stage). IsAt tx key s.layout stage s.left g
                (λ drive. sent_along start (numbered n (goes drive (mine tx (only key)))) h log))
                works_so
                (subst
                (λ (v : Gathered). IsAt tx key s.layout s.stage s.left v
                (λ drive. sent_along start (numbered n (goes drive (mine tx (only key)))) h log))
                same (own.own (ap (λ (v : Gathered). same_tx v.tx tx) same ∙ same_tx-self tx)))

    abbrev keys : List Touched
    keys = map touch g.keys

    -- so no other keys of it are committed by anyone there
    abbrev sent_others : Member → ℕ
    sent_others me =
        sent_along start (numbered n (goes committing (mine tx (outside keys)))) (tc_of start me) (old (tc_of start me))

    none_outside : (me : Member) → IsIn me (made start) → sent_others me ≡ 0
    none_outside me among_made = by (sent_others me) refl
      where
        outside_off : (b : Bool) → not b ≡ true → b ≡ false
        outside_off false e = refl
        outside_off true e = absurd (true≢false (sym e))

        no : OfKey start n tx (outside keys) (tc_of start me) (old (tc_of start me)) → ⊥
        no one = which (cases_eq (tc_of start me) h)
          where
            off : has_key g.keys one.key ≡ false
            off = sym (touched_among g.keys one.key) ∙ outside_off (among keys one.key) one.passes

            which : (tc_of start me ≡ h) ⊎ (tc_of start me ≢ h) → ⊥
            which (inl same) =
                absurd (omega (
                  arith,
                  one.sent,
                  ap (λ k. sent_along start (numbered n (goes committing (mine tx (only one.key)))) k (old k)) same,
                  own_none one.key off,
                ))
            which (inr apart) =
                absurd (omega (
                  arith,
                  one.sent,
                  (ruled_at one.key me among_made).few committing,
                  own_ordered,
                  two_low (hosts start) orders_at (tc_of start me) h (tc_low start moment.cluster.nobody me among_made)
                      (tc_low start moment.cluster.nobody member there) apart,
                  orders_once start all es less n,
                ))

        by : (count : ℕ) → sent_others me ≡ count → count ≡ 0
        by zero is = refl
        by (suc count) is =
            absurd (no (of_key start n tx (outside keys) (tc_of start me) (old (tc_of start me)) (omega (arith, is))))

    owners_none : owners_sent start (numbered n (goes committing (mine tx (outside keys)))) old ≡ 0
    owners_none = total_of_zero (made start) sent_others none_outside

    -- what its host takes by the event was sent before it
    taken_sent : (wk : List ℕ → Bool) → taken_along start (told tx n wk) (e ∷ log) ≤ all_sent start (told tx n wk) old
    taken_sent wk =
        omega (
          arith,
          total_at (hosts start) (λ k. taken_along start (told tx n wk) (logs_of start (e ∷ es) k)) h
              (tc_low start moment.cluster.nobody member there),
          ap (taken_along start (told tx n wk)) (log_of-own (machine start) e es h at),
          takes_before start (told tx n wk) (told_rows tx n wk) all e es moment,
        )

    once : (key : List ℕ) → taken_along start (told tx n (only key)) (e ∷ log) ≤ 1
    once key =
        omega (
          arith,
          taken_sent (only key),
          all_once (takeovers_drive_once orders_once) start tx n committing key all es less,
        )

    others_none : taken_along start (told tx n (outside keys)) (e ∷ log) ≡ 0
    others_none =
        omega (
          arith,
          taken_sent (outside keys),
          told_few committing (mine tx (outside keys)) n start all es less,
          owners_none,
        )

    all_committed : length g.keys
        ≤ taken_along start
        (told g.tx (view_after start (tc_of start member) (logs_of start es (tc_of start member))).number any)
        (e ∷ logs_of start es (tc_of start member))
        → Each (λ (key : List ℕ). WasCommittedIn start (logs_of start es)
        (view_after start (tc_of start member) (logs_of start es (tc_of start member))).number g.tx key) g.keys
    all_committed enough =
        of_touched (WasCommittedIn start old n tx) g.keys
        (each_map (λ (u : Touched). 1 ≤ taken_along start (told tx n (only u.key)) (e ∷ log))
        (λ (u : Touched). WasCommittedIn start old n tx u.key) keys
        (λ u one. told_sent start old n tx u.key (omega (arith, one, taken_sent (only u.key))))
        (each_told tx n start (e ∷ log) keys once others_none (omega (arith, enough, touched_all g.keys))))

-- so it is at the host of the event
module _ (start : Start) (all : ℕ → List HostStep) (e : HostStep) (es : List HostStep)
    (moment : IsMoment start all (e ∷ es)) (member : Member) (there : IsIn member (made start))
    (at : e.host ≡ tc_of start member) (g : Gathered) (epoch awaited : ℕ)
  where
    abbrev IsSoAt : ℕ → Type 0
    IsSoAt k =
        slice_get (takeover_after start member (logs_of start es k)).gathered 0 ≡ Some g
        → (takeover_after start member (logs_of start es k)).stage ≡ Committing epoch awaited
        → length g.keys
        ≤ taken_along start (told g.tx (view_after start k (logs_of start es k)).number any) (e ∷ logs_of start es k)
        → Each (λ (key : List ℕ). WasCommittedIn start (logs_of start es)
        (view_after start k (logs_of start es k)).number g.tx key) g.keys

    pub keys_were_committed :
        slice_get (takeover_after start member (logs_of start es e.host)).gathered 0 ≡ Some g
        → (takeover_after start member (logs_of start es e.host)).stage ≡ Committing epoch awaited
        → length g.keys
        ≤ taken_along start (told g.tx (view_after start e.host (logs_of start es e.host)).number any)
        (e ∷ logs_of start es e.host)
        → Each (λ (key : List ℕ). WasCommittedIn start (logs_of start es)
        (view_after start e.host (logs_of start es e.host)).number g.tx key) g.keys
    keys_were_committed =
        subst IsSoAt (sym at)
        (λ first works_so. all_committed start all e es moment member there at g epoch awaited first works_so)
