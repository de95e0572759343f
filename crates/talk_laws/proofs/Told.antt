-- Whoever is decided has the operations that its client asked for, and the answers that it was told: all, and no
-- others.
use Rattle.std.proofs.Common.{◌≡◌, ◌≤◌, ◌<◌, ◌+◌, ◌⊎◌, ◌∙◌, ◌++◌, ℕ, zero, suc, Bool, true, false, List, [], ◌∷◌}
use Rattle.std.proofs.Common.{length, map, reverse, ap, append-nil, arith, inl, inr, refl, subst, sym}
use Rattle.std.proofs.lemmas.Bool.{cases_lt}
use Rattle.std.specs.List.{count_by}
use Rattle.std.specs.Prelude.{if◌then◌else◌, Option, None, Some}
use Rattle.run_theory.specs.Links.{sent}
use Rattle.run_theory.specs.Lists.{IsIn}
use Rattle.run_theory.specs.Logs.{IsLog}
use Rattle.run_theory.proofs.Pasts.{each_in}
use Rattle.sig_core.specs.declared.entry.Entry.{Entry}
use Rattle.sig_core.specs.declared.mark.Mark.TheVariants.{Decided}
use Rattle.sig_core.specs.declared.member.Member.{Member}
use Rattle.sig_core.specs.declared.member.TxId.{TxId}
use Rattle.sig_core.specs.declared.op.Answer.{Answer}
use Rattle.sig_core.specs.declared.op.Op.{Op}
use Rattle.sig_core.specs.declared.signal.Body.{Body}
use Rattle.sig_core.specs.declared.signal.Body.TheVariants.{Client, Epoch, Host}
use Rattle.sig_core.specs.declared.signal.client.ClientSignal.TheVariants.{TcCommitReq, TcKeyConf, TcKeyReq}
use Rattle.sig_core.specs.declared.signal.epoch.EpochSignal.TheVariants.{DiVerifyReq}
use Rattle.sig_core.specs.Same.{same_tx}
use Rattle.sig_core.proofs.Keys.{same_tx-self}
use Rattle.tc_block.specs.Complete.{one_if}
use Rattle.report_laws.specs.Answered.{is_answered}
use Rattle.report_laws.specs.Asked.{asked_by}
use Rattle.talk_laws.proofs.Newest.{newest, newest_is, newest_ops, newest_ops_is}
use Rattle.world_core.specs.Entries.{ops_of, verified_by}
use Rattle.world_core.specs.Hosts.{hosts}
use Rattle.world_core.specs.Start.{Start, made}
use Rattle.world_core.specs.Steps.{HostStep}
use Rattle.world_views.specs.Hosts.{started}
use Rattle.world_views.specs.Machine.{machine}
use Rattle.world_views.specs.Sending.{is_own_work}
use Rattle.host_laws.proofs.coordinator.Keys.{key_of_tx}
use Rattle.view_laws.specs.Runs.{AreOfCluster}
use Rattle.moment_laws.specs.Places.{tc_of}
use Rattle.moment_laws.proofs.MomentHosts.{TcHost, of_none, of_tc, tc_host_is}
use Rattle.outcome_laws.specs.Counts.{coordinator_member, is_asking, is_decision, is_wish}
use Rattle.outcome_laws.specs.Once.{takes_in}
use Rattle.outcome_laws.proofs.once.Begins.{asks_elsewhere, begin_once, no_tc_sends, nowhere_sends, only_asks}
use Rattle.outcome_laws.proofs.once.Begins.{tc_begins}
use Rattle.outcome_laws.proofs.once.DecidedOnce.{decides_asked}
use Rattle.outcome_laws.proofs.downfall.NeverDecided.{nodes_wish}
use Rattle.outcome_laws.proofs.once.NobodyElse.{asking_coordinators}
use Rattle.outcome_laws.proofs.once.Counted.{uncounted_asking}
use Rattle.outcome_laws.proofs.once.CoordinatorScale.{IsTcOf}
use Rattle.outcome_laws.proofs.once.AsksAreWished.{asks_wished}
use Rattle.outcome_laws.proofs.coordinators.Lists.{count_more}
use Rattle.outcome_laws.proofs.once.TakenFromLinks.{takes_few}
use Rattle.outcome_laws.proofs.once.AlongLogs.{link_count, sends_in}
use Rattle.outcome_laws.proofs.order.ReportsBeforeAsks.{older_counts}
use Rattle.talk_laws.specs.Talks.{DecidedAsAskedAndTold, asked_of, told_of}
use Rattle.talk_laws.proofs.Among.{AreAmong, among_all, among_in, among_length, among_same, among_trans}
use Rattle.talk_laws.proofs.Links.{none_on, takes_among}
use Rattle.talk_laws.proofs.ClientLogs.{asked_is, client_log, wish_count, wished_by}
use Rattle.talk_laws.proofs.EntryLogs.{IsEntryOf, entry_log, ops_taken}
use Rattle.talk_laws.proofs.TcLogs.{TalkedLog, log_talked}
use Rattle.talk_laws.proofs.TcOwn.{nodes_ask_none, others_answer_none}
use Rattle.talk_laws.proofs.Picks.{cons_more, on_link, sent_of, taken_of}
use Rattle.talk_laws.proofs.TcTrack.{Gives, told_by}

-- lists of operations and answers are as long as the entries that they are of
pub newest_length : (ops : List (Op × Answer)) (before : List Answer)
    → length (newest ops before) ≡ length ops + length before
newest_length [] before = omega arith
newest_length (op ∷ ops) before = omega (arith, newest_length ops (op.1 ∷ before))

pub newest_ops_length : (ops : List (Op × Answer)) (before : List Op)
    → length (newest_ops ops before) ≡ length ops + length before
newest_ops_length [] before = omega arith
newest_ops_length (op ∷ ops) before = omega (arith, newest_ops_length ops (op.0 ∷ before))

-- Where no more is asked for than was told, what is told are answers that were heard, what is heard are those of the
-- operations, and the operations were asked for, they are all the same.
pub all_told : (asked took : List Op) (told heard gave : List Answer) (ops : List (Op × Answer))
    → length asked ≤ length told → AreAmong told heard → AreAmong heard gave → AreAmong gave (newest ops [])
    → AreAmong (newest_ops ops []) took → AreAmong took asked
    → (asked ≡ newest_ops ops []) × (told ≡ newest ops [])
all_told asked took told heard gave ops paid one two three four five = (
  sym (among_all (newest_ops ops []) asked asks
      (omega (arith, paid, among_length told (newest ops []) tells, newest_length ops [], newest_ops_length ops []))),
  among_all told (newest ops []) tells
      (omega (
        arith,
        paid,
        among_length (newest_ops ops []) asked asks,
        newest_length ops [],
        newest_ops_length ops
            [],
      )),
)
  where
    tells : AreAmong told (newest ops [])
    tells = among_trans told heard (newest ops []) one (among_trans heard gave (newest ops []) two three)

    asks : AreAmong (newest_ops ops []) asked
    asks = among_trans (newest_ops ops []) took asked four five

in_count : {A : Type 0} (p : A → Bool) (x : A) (xs : List A) → p x ≡ true → IsIn x xs → 1 ≤ count_by p xs
in_count p x [] is there = absurd there
in_count p x (y ∷ xs) is (inl same) =
    omega (arith, count_more p y xs, ap one_if (sym (ap p same) ∙ is))
in_count p x (y ∷ xs) is (inr there) = omega (arith, count_more p y xs, in_count p x xs is there)

-- of a log an older part is one
older_log : (start : Start) (h : ℕ) (newer log : List HostStep) → IsLog (machine start) h (newer ++ log)
    → IsLog (machine start) h log
older_log start h [] log is = is
older_log start h (e ∷ newer) log is = older_log start h newer log is.1

older_taken : {A : Type 0} (f : Body → Option A) (newer log : List HostStep)
    → AreAmong (taken_of f log) (taken_of f (newer ++ log))
older_taken f [] log = among_same (taken_of f log)
older_taken f (e ∷ newer) log =
    cons_more (f e.step.taken.body) (taken_of f log) (taken_of f (newer ++ log)) (older_taken f newer log)

tc_behind : (start : Start) (me : Member) (h : ℕ) → IsTcOf me (started start h).parts → 1 ≤ h
unfolding started
tc_behind start me zero of = absurd of
tc_behind start me (suc h) of = omega arith

module _ (tx : TxId) where
  only_told : (body : Body) → is_own_work body ≡ true → told_by tx body ≡ None
  only_told (Host signal) own = refl
  only_told body own = absurd cc

  only_asked : (body : Body) → is_own_work body ≡ true → asked_by tx body ≡ None
  only_asked (Host signal) own = refl
  only_asked body own = absurd cc

  only_verified : (body : Body) → is_own_work body ≡ true → verified_by tx body ≡ None
  only_verified (Host signal) own = refl
  only_verified body own = absurd cc

  only_wished : (body : Body) → is_own_work body ≡ true → wished_by tx body ≡ None
  only_wished (Host signal) own = refl
  only_wished body own = absurd cc

  unanswered : (body : Body) → is_answered tx body ≡ false → told_by tx body ≡ None
  unanswered (Client (TcKeyConf other answer)) off = ap (λ (b : Bool). if b then Some answer else None) off
  unanswered body off = refl

  unkeyed : (body : Body) → key_of_tx tx body ≡ false → asked_by tx body ≡ None
  unkeyed (Client (TcKeyReq other op)) off = ap (λ (b : Bool). if b then Some op else None) off
  unkeyed body off = refl

  unasked : (body : Body) → is_asking tx body ≡ false → verified_by tx body ≡ None
  unasked (Epoch (DiVerifyReq other ops)) off = ap (λ (b : Bool). if b then Some ops else None) off
  unasked body off = refl

  unwished : (body : Body) → is_wish tx body ≡ false → wished_by tx body ≡ None
  unwished (Client (TcCommitReq other)) off = ap (λ (b : Bool). if b then Some tx else None) off
  unwished body off = refl

  wishes_taken : (log : List HostStep) → length (taken_of (wished_by tx) log) ≡ takes_in (is_wish tx) log
  wishes_taken [] = refl
  wishes_taken (e ∷ log) =
      omega (arith, wish_count tx e.step.taken.body (taken_of (wished_by tx) log), wishes_taken log)

  module _ (start : Start) (logs : ℕ → List HostStep) (are : AreOfCluster start logs) where
    abbrev c : ℕ
    c = tc_of start (coordinator_member tx)

    link_none : {A : Type 0} (f : Body → Option A) (p : Body → Bool) → ((body : Body) → p body ≡ false → f body ≡ None)
        → (i j : ℕ) → sends_in p start i (logs i) ≡ 0 → on_link f (sent (machine start) i j (logs i)) ≡ []
    link_none f p counts i j none =
        none_on f p counts (sent (machine start) i j (logs i)) (omega (arith, link_count p start i j (logs i), none))

    -- what is heard was told, and what is done was asked for
    heard : AreAmong (taken_of (told_by tx) (logs 0)) (sent_of (told_by tx) start c (logs c))
    heard =
        takes_among (told_by tx) only_told start c logs are.right 0
        (λ i other. link_none (told_by tx) (is_answered tx) unanswered i 0
        (others_answer_none start logs are tx i other))

    took : (h : ℕ) → AreAmong (taken_of (asked_by tx) (logs h)) (asked_of start tx (logs 0))
    took h =
        subst (AreAmong (taken_of (asked_by tx) (logs h))) (sym (asked_is tx start (logs 0)))
        (takes_among (asked_by tx) only_asked start 0 logs are.right h
        (λ i other. link_none (asked_by tx) (key_of_tx tx) unkeyed i h (nodes_ask_none start logs are tx i other)))

    verified : (h : ℕ) → AreAmong (taken_of (verified_by tx) (logs h)) (sent_of (verified_by tx) start c (logs c))
    verified h =
        takes_among (verified_by tx) only_verified start c logs are.right h
        (λ i other. link_none (verified_by tx) (is_asking tx) unasked i h (asks_elsewhere tx start logs are i other))

    wished : (h : ℕ) → takes_in (is_wish tx) (logs h) ≤ length (sent_of (wished_by tx) start 0 (logs 0))
    wished h =
        omega (
          arith,
          wishes_taken (logs h),
          among_length (taken_of (wished_by tx) (logs h)) (sent_of (wished_by tx) start 0 (logs 0))
              (takes_among (wished_by tx) only_wished start 0 logs are.right h
              (λ i other. link_none (wished_by tx) (is_wish tx) unwished i h (nodes_wish start logs are tx i other))),
        )

    module _ (ops : List (Op × Answer)) (there : IsIn ops (sent_of (verified_by tx) start c (logs c)))
        (some : 1 ≤ sends_in (is_asking tx) start c (logs c))
      where
        abbrev Done : Type 0
        Done = (asked_of start tx (logs 0) ≡ newest_ops ops []) × (told_of start tx (logs 0) ≡ newest ops [])

        of_member : (me : Member) → IsIn me (made start) → c ≡ tc_of start me → Done
        of_member me made_is at = by (cases_lt 0 (takes_in (is_wish tx) (logs (tc_of start me))))
          where
            talked : TalkedLog tx me start made_is (logs (tc_of start me))
            talked =
                log_talked tx me start made_is are.nobody
                (tc_behind start me (tc_of start me) (tc_begins start are.nobody me made_is))
                (logs (tc_of start me))

            gives : Gives (sent_of (told_by tx) start (tc_of start me) (logs (tc_of start me)))
                (taken_of (asked_by tx) (logs (tc_of start me))) ops
            gives =
                each_in _ ops (sent_of (verified_by tx) start (tc_of start me) (logs (tc_of start me)))
                talked.is.talked.gives
                (subst (λ (h : ℕ). IsIn ops (sent_of (verified_by tx) start h (logs h))) at there)

            by : (0 < takes_in (is_wish tx) (logs (tc_of start me)))
                ⊎ (takes_in (is_wish tx) (logs (tc_of start me)) ≤ 0) → Done
            by (inl wish) =
                let client = client_log tx start are.nobody (logs 0) (begin_once tx start logs are 0) in
                all_told (asked_of start tx (logs 0)) (taken_of (asked_by tx) (logs (tc_of start me)))
                (told_of start tx (logs 0)) (taken_of (told_by tx) (logs 0))
                (sent_of (told_by tx) start (tc_of start me) (logs (tc_of start me))) ops
                (client.talked.wished_paid (omega (arith, wish, wished (tc_of start me)))) client.among
                (subst (λ (h : ℕ). AreAmong (taken_of (told_by tx) (logs 0)) (sent_of (told_by tx) start h (logs h))) at
                heard)
                gives.answers_are gives.ops_are (took (tc_of start me))
            by (inr none) =
                let bare =
                asks_wished tx start are.nobody me made_is (logs (tc_of start me)) (are.right.local (tc_of start me))
                none in
                let same = ap (λ (h : ℕ). sends_in (is_asking tx) start h (logs h)) at in
                absurd (omega (arith, some, bare, same))

        all_done : Done
        all_done = by (cases_lt c (hosts start))
          where
            of_host : TcHost start c → Done
            of_host (of_tc me made_is at) = of_member me made_is at
            of_host (of_none none) =
                let bare =
                no_tc_sends (is_asking tx) (uncounted_asking tx) start logs are (asking_coordinators tx) c none in
                absurd (omega (arith, some, bare))

            by : (c < hosts start) ⊎ (hosts start ≤ c) → Done
            by (inl low) = of_host (tc_host_is start are.nobody c low)
            by (inr high) =
                let bare = nowhere_sends (is_asking tx) (uncounted_asking tx) start logs are c high in
                absurd (omega (arith, some, bare))

    -- the request for an epoch that a host took before it decided it
    asked_before : (h : ℕ) (a : Entry) → a.tx ≡ tx → (is : IsEntryOf a (logs h))
        → 1 ≤ takes_in (is_asking tx) (is.step ∷ is.before)
    asked_before h a same is =
        let right = older_log start h is.past.newer (is.step ∷ is.before)
        (subst (IsLog (machine start) h) is.past.is (are.right.local h)) in
        omega (
          arith,
          decides_asked tx start are.nobody h (is.step ∷ is.before) right,
          in_count (is_decision tx) (Decided a.tx a.epoch) is.step.step.marks
              (ap (λ (u : TxId). same_tx u tx) same ∙ same_tx-self tx) is.decided,
        )

    entry_done : (h : ℕ) (a : Entry) → a.tx ≡ tx → IsEntryOf a (logs h)
        → (asked_of start tx (logs 0) ≡ newest_ops a.ops []) × (told_of start tx (logs 0) ≡ newest a.ops [])
    entry_done h a same is =
        subst
        (λ (ops : List (Op × Answer)). (asked_of start tx (logs 0) ≡ newest_ops ops [])
        × (told_of start tx (logs 0) ≡ newest ops []))
        (sym (is.ops_are ∙ ap (λ (u : TxId). ops_of u (is.step ∷ is.before)) same))
        (all_done (ops_of tx (is.step ∷ is.before))
        (among_in (ops_of tx (is.step ∷ is.before)) (taken_of (verified_by tx) (logs h))
        (sent_of (verified_by tx) start c (logs c)) (verified h)
        (among_in (ops_of tx (is.step ∷ is.before)) (taken_of (verified_by tx) (is.step ∷ is.before))
        (taken_of (verified_by tx) (logs h))
        (subst (λ log. AreAmong (taken_of (verified_by tx) (is.step ∷ is.before)) (taken_of (verified_by tx) log))
        (sym is.past.is) (older_taken (verified_by tx) is.past.newer (is.step ∷ is.before)))
        (ops_taken tx (is.step ∷ is.before) (asked_before h a same is))))
        (omega (
          arith,
          asked_before h a same is,
          older_counts (is_asking tx) is.past.newer (is.step ∷ is.before),
          ap (takes_in (is_asking tx)) is.past.is,
          takes_few (is_asking tx) (only_asks tx start logs are) start c logs are.right h
              (λ i other. omega (
                arith,
                asks_elsewhere tx start logs are i other,
                link_count (is_asking tx) start i h
                    (logs i),
              )),
          link_count (is_asking tx) start c h (logs c),
        )))

pub decided_as_told : DecidedAsAskedAndTold
decided_as_told start logs are entry there =
    let log = entry_log entry (hosts start) logs there in
    let both = entry_done entry.tx start logs are log.host entry refl log.is in (
      both.0 ∙ (newest_ops_is entry.ops [] ∙ append-nil (reverse (map (λ (op : Op × Answer). op.0) entry.ops))),
      both.1 ∙ (newest_is entry.ops [] ∙ append-nil (reverse (map (λ (op : Op × Answer). op.1) entry.ops))),
    )
