-- The values of some workloads, computed.
use Rattle.std.proofs.Common.{◌≡◌, refl, codes}
use Rattle.std.specs.Fmt.{digits}
use Rattle.workloads.specs.Workload.{elements, seed, stride, template, value_text, filled}
use Rattle.workloads.specs.declared.templates.TheConstants.{STREAM}

three_kinds_take_turns : template 19 ≡ STREAM.now
three_kinds_take_turns = refl

the_sizes_go_from_64 : elements 2 ≡ 64
the_sizes_go_from_64 = refl

to_2048 : elements 17 ≡ 2048
to_2048 = refl

and_begin_again_with_the_next_seed : elements 18 ≡ 64
and_begin_again_with_the_next_seed = refl

the_next_seed_is_1 : seed 18 ≡ 1
the_next_seed_is_1 = refl

a_stride_is_odd : stride 20 ≡ 5
a_stride_is_odd = refl

strides_begin_again_after_sixteen_seeds : stride 290 ≡ 3
strides_begin_again_after_sixteen_seeds = refl

marks_are_filled_in : filled (value_text 3) (codes "k * $P;") ≡ codes "k * 16;"
unfolding digits
marks_are_filled_in = refl
