-- Before a takeover is ordered in a view nobody was told in it of what rows have, as one order is taken in each view.
use Rattle.std.proofs.Common.{◌≡◌, ◌==◌, ◌&&◌, ◌||◌, ◌∙◌, ℕ, Bool, true, false, List, ◌∷◌, refl, sym, ap, arith}
use Rattle.std.proofs.lemmas.Bool.{eq-eqb, true≢false}
use Rattle.std.specs.Prelude.{if◌then◌else◌, not}
use Rattle.run_theory.proofs.Pasts.{each_past}
use Rattle.run_theory.proofs.Runs.{logs_of_run}
use Rattle.run_theory.specs.Links.{taken}
use Rattle.run_theory.specs.Lists.{IsIn}
use Rattle.run_theory.specs.Machine.{Machine}
use Rattle.sig_core.specs.declared.member.Member.{Member}
use Rattle.sig_core.specs.declared.member.TxId.{TxId}
use Rattle.sig_core.specs.declared.signal.Body.TheVariants.{Host, Takeover}
use Rattle.sig_core.specs.declared.signal.Signal.{Signal}
use Rattle.sig_core.specs.declared.signal.host.HostSignal.TheVariants.{Closed}
use Rattle.sig_core.specs.declared.signal.takeover.TakeoverSignal.TheVariants.{LqhTransConf, TakeoverOrd}
use Rattle.tc_block.specs.Complete.{one_if}
use Rattle.node_views.specs.WellFormed.{is_well_formed}
use Rattle.world_core.specs.Start.{Start, made}
use Rattle.world_core.specs.Steps.{Addressed, HostStep}
use Rattle.world_views.specs.Machine.{machine}
use Rattle.view_laws.specs.Order.{sound_machine}
use Rattle.view_laws.specs.Runs.{WasInstalled}
use Rattle.view_laws.proofs.runs.Headers.{headers_installed}
use Rattle.moment_laws.specs.Moments.{IsMoment, logs_of}
use Rattle.moment_laws.specs.Places.{tc_of}
use Rattle.moment_laws.proofs.MomentHosts.{tc_low}
use Rattle.moment_laws.proofs.MomentViews.{current_number, moment_less}
use Rattle.request_laws.specs.Tokens.{all_taken}
use Rattle.request_laws.proofs.tokens.FirstInView.{all_taken_more, taken_now}
use Rattle.commit_laws.specs.Telling.{IsTelling, OrdersComeFirst}
use Rattle.commit_laws.proofs.drive.Kinds.{numbered}
use Rattle.commit_laws.proofs.drive.Ruled.{is_order}
use Rattle.commit_laws.proofs.orders.Sound.{IsSoundOf, given_so, order_given, order_sound, sound_closes, taken_sound}
use Rattle.commit_laws.proofs.orders.Together.{orders_once}
use Rattle.commit_laws.proofs.orders.UnorderedHosts.{is_of_reports}
use Rattle.commit_laws.proofs.orders.UnorderedViews.{IsOff, IsUnordered, unordered_views}

module _ (start : Start) (all : ℕ → List HostStep) (e : HostStep) (es : List HostStep)
    (moment : IsMoment start all (e ∷ es)) (member : Member) (there : IsIn member (made start))
    (order : e.step.taken.body ≡ Takeover TakeoverOrd)
    (header : e.step.taken.view.number ≡ current_number start (logs_of start (e ∷ es)))
  where
    abbrev n : Machine HostStep Addressed
    n = sound_machine start

    abbrev x : Signal
    x = e.step.taken

    abbrev h : ℕ
    h = tc_of start member

    abbrev number : ℕ
    number = current_number start (logs_of start (e ∷ es))

    less : IsMoment start all es
    less = moment_less start all e es moment

    -- it is the first of its view
    unordered : is_well_formed start.shape x ≡ true
        → all_taken start (numbered (current_number start (logs_of start (e ∷ es))) is_order) (logs_of start es) ≡ 0
    unordered sound =
        let one : taken_now start all e es moment (numbered number is_order) ≡ 1 =
        taken_one (n.asked e) (is_order x.body) (x.view.number == number)
        (given ((machine start).asked e) (is_well_formed start.shape x) (order_given start all e es moment order) sound)
        (ap is_order order) (eq-eqb x.view.number number header) in
        let more = all_taken_more start all e es moment (numbered number is_order) in
        let once = orders_once start all (e ∷ es) moment number in
        omega (arith, one, more, once)
      where
        given : (asked sound : Bool) → asked ≡ false → sound ≡ true → (asked || not sound) ≡ false
        given false true is well = refl
        given false false is well = absurd (true≢false (sym well))
        given true sound is well = absurd (true≢false is)

        taken_one : (asked kind same : Bool) → asked ≡ false → kind ≡ true → same ≡ true
            → (if asked then 0 else one_if (kind && same)) ≡ 1
        taken_one false true true is own at = refl
        taken_one false true false is own at = absurd (true≢false (sym at))
        taken_one false false same is own at = absurd (true≢false (sym own))
        taken_one true kind same is own at = absurd (true≢false is)

    -- so nothing was told before
    module _ (i : ℕ) (y : Addressed)
        (inside : IsIn y (taken (sound_machine start) i (logs_of start es (tc_of start member)))) (tx : TxId)
        (key : List ℕ) (tells : IsTelling start (logs_of start (e ∷ es)) tx key y)
      where
        other : IsSoundOf start all i y
        other =
            taken_sound start all i y (logs_of start es h)
            (each_past (λ (f : HostStep). WasInstalled start all f.step.taken.view) (less.inside h)
            (headers_installed start all moment.cluster h (tc_low start moment.cluster.nobody member there))) inside

        sound : is_well_formed start.shape x ≡ true
        sound = order_sound start all e es moment order y i other (header ∙ sym tells.number)

        before : IsUnordered start number (logs_of start es)
        before = unordered_views start all es less number (unordered sound)

        off : IsOff start number y
        off =
            given_so n (sound_closes start) (IsOff start number) i h (logs_of start es i)
            (taken n i (logs_of start es h)) (before.sent i h) ((logs_of_run n es less.run).linked i h) y inside
            (λ closes.
            let differ : Takeover (LqhTransConf tx key tells.told tells.epoch) ≡ Host (Closed closes.cause) =
            sym tells.body ∙ closes.is in
            absurd cc)

        pub none_told : ⊥
        none_told = true≢false (sym (ap is_of_reports tells.body) ∙ off tells.number)

pub orders_come_first : OrdersComeFirst
orders_come_first start all e es moment member there at to order header i y inside tx key tells =
    none_told start all e es moment member there order header i y inside tx key tells
