-- The sample is a run: each part computes.
use Rattle.std.proofs.Common.{[], ◌∷◌, drop, refl, inl, inr, true≢false}
use Rattle.run_theory.specs.Runs.{Happens}
use Rattle.run_example.specs.declared.game.Kind.TheVariants.{Serve, Make, Stop, Ping, Pong, Closed}
use Rattle.run_example.specs.Game.{game}
use Rattle.run_example.specs.Sample.{signal, takes, sample_made, sample, SampleRuns}

-- each event, after those below it
first : Happens (game sample_made) (drop 11 sample) (takes 1 (signal 0 0 0 (Serve 1 7)))
first = record {
  step = record { at = refl; stamped = refl; runs = tt; fits = refl };
  there = inl refl;
  takes = λ asked. absurd (true≢false asked);
}

second : Happens (game sample_made) (drop 10 sample) (takes 2 (signal 0 1 1 (Ping 7)))
second = record {
  step = record { at = refl; stamped = refl; runs = tt; fits = refl };
  there = inl refl;
  takes = λ asked. inl (record { newer = []; is = refl });
}

third : Happens (game sample_made) (drop 9 sample) (takes 2 (signal 0 0 1 (Serve 1 8)))
third = record {
  step = record { at = refl; stamped = refl; runs = refl; fits = refl };
  there = inl refl;
  takes = λ asked. absurd (true≢false asked);
}

fourth : Happens (game sample_made) (drop 8 sample) (takes 3 (signal 0 1 2 (Ping 8)))
fourth = record {
  step = record { at = refl; stamped = refl; runs = refl; fits = refl };
  there = inl refl;
  takes = λ asked. inl (record { newer = []; is = refl });
}

fifth : Happens (game sample_made) (drop 7 sample) (takes 3 (signal 1 0 2 (Pong 7)))
fifth = record {
  step = record { at = refl; stamped = refl; runs = refl; fits = refl };
  there = inl refl;
  takes = λ asked. inl (record { newer = signal 1 0 3 (Pong 8) ∷ []; is = refl });
}

sixth : Happens (game sample_made) (drop 6 sample) (takes 4 (signal 1 1 3 Stop))
sixth = record {
  step = record { at = refl; stamped = refl; runs = refl; fits = refl };
  there = inl refl;
  takes = λ asked. absurd (true≢false asked);
}

seventh : Happens (game sample_made) (drop 5 sample) (takes 4 (signal 0 0 3 (Make 2)))
seventh = record {
  step = record { at = refl; stamped = refl; runs = refl; fits = refl };
  there = inl refl;
  takes = λ asked. absurd (true≢false asked);
}

eighth : Happens (game sample_made) (drop 4 sample) (takes 5 (signal 1 0 4 Closed))
eighth = record {
  step = record { at = refl; stamped = refl; runs = refl; fits = refl };
  there = inl refl;
  takes = λ asked. inr (record {
    stops = refl;
    rest = signal 1 0 2 (Pong 7) ∷ [];
    is = refl;
    past = record {
      newer = signal 1 0 3 (Pong 8) ∷ [];
      is = refl;
    };
  });
}

ninth : Happens (game sample_made) (drop 3 sample) (takes 6 (signal 0 0 5 (Serve 2 9)))
ninth = record {
  step = record { at = refl; stamped = refl; runs = refl; fits = refl };
  there = inl refl;
  takes = λ asked. absurd (true≢false asked);
}

tenth : Happens (game sample_made) (drop 2 sample) (takes 7 (signal 0 2 6 (Ping 9)))
tenth = record {
  step = record { at = refl; stamped = refl; runs = tt; fits = refl };
  there = inr (record {
    step = takes 4 (signal 0 0 3 (Make 2));
    before = takes 3 (signal 1 0 2 (Pong 7)) ∷ takes 2
        (signal 0 0 1 (Serve 1 8)) ∷ takes 1 (signal 0 0 0 (Serve 1 7)) ∷ [];
    past = record {
      newer = takes 6 (signal 0 0 5 (Serve 2 9)) ∷ takes 5 (signal 1 0 4 Closed) ∷ [];
      is =
          refl;
    };
    at = refl;
    makes = refl;
  });
  takes = λ asked. inl (record { newer = []; is = refl });
}

eleventh : Happens (game sample_made) (drop 1 sample) (takes 8 (signal 2 0 7 (Pong 9)))
eleventh = record {
  step = record { at = refl; stamped = refl; runs = refl; fits = refl };
  there = inl refl;
  takes = λ asked. inl (record { newer = []; is = refl });
}

pub sample_runs : SampleRuns
sample_runs =
    (((((((((((tt, first), second), third), fourth), fifth), sixth), seventh), eighth), ninth), tenth), eleventh)
