use Rattle.std.proofs.Common.{◌≡◌, List, [], ◌∷◌, refl, ap, ◌∙◌, count_by, arith}
use Rattle.std.proofs.lemmas.Grind.{common_steps}
use Rattle.word_ops.specs.Formats.{words_in}
use Rattle.word_ops.specs.declared.format.Part.{Part}
use Rattle.word_ops.specs.declared.format.Part.TheVariants.{Byte, Long}
use Rattle.threadlet_state.specs.Answered.{is_word}
use Rattle.threadlet_state.proofs.operands.word_count.Goals as goal

words_counted : (format : List Part) → count_by is_word format ≡ words_in format
words_counted [] = refl
words_counted (Byte byte ∷ parts) = words_counted parts
words_counted (Long ∷ parts) = grind (arith, common_steps, words_counted parts)

pub returns : goal.returns
returns c = c.count_words.ensures ∙ ap (count_by is_word) c.as_slice.ensures ∙ words_counted c.args.format.now
