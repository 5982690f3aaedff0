-- Reports, computed.
use Rattle.std.proofs.Common.{◌≡◌, ℕ, List, [], ◌∷◌, ◌++◌, codes, replicate, refl}
use Rattle.std.specs.Fmt.{digits}
use Rattle.word_ops.specs.Report.{report_of}
use Rattle.word_ops.specs.declared.traffic.Traffic.{Traffic}

-- a strand fills an array that is dealt over 8 nodelets, and then goes round them twice
abbrev goes_round : Traffic
goes_round = record {
  n = 8;
  moves = let step : List ℕ = 2 ∷ replicate 8 0 in 0 ∷ [] ++ step ++ step ++ step ++ step ++ step ++ step ++ 2 ∷ 2 ∷ replicate 7 0;
  births = replicate 64 0;
  posts = replicate 8 2 ++ replicate 56 0;
  dones = replicate 64 0;
  turns = 21 ∷ replicate 7 2;
  applied = replicate 8 2;
}

each_way_has_its_line : report_of goes_round ≡
    codes "traffic\nmove 0 1 2\nmove 1 2 2\nmove 2 3 2\nmove 3 4 2\nmove 4 5 2\nmove 5 6 2\nmove 6 7 2\nmove 7 0 2\n"
    ++ codes "post 0 0 2\npost 0 1 2\npost 0 2 2\npost 0 3 2\npost 0 4 2\npost 0 5 2\npost 0 6 2\npost 0 7 2\n"
    ++ codes "nodelet 0 turns 21 applied 2\nnodelet 1 turns 2 applied 2\nnodelet 2 turns 2 applied 2\nnodelet 3 turns 2 applied 2\n"
    ++ codes "nodelet 4 turns 2 applied 2\nnodelet 5 turns 2 applied 2\nnodelet 6 turns 2 applied 2\nnodelet 7 turns 2 applied 2\n"
unfolding digits
each_way_has_its_line = refl
