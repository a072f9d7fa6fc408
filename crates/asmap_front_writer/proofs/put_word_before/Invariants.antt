-- Of a window of the word's bits and above them those held, the bytes that are out, and what the output will hold (Going).
use Rattle.asmap_front_writer.proofs.FrontLaws.{Going}
use Rattle.asmap_front_writer.proofs.put_word_before.Given as goal

abbrev pub invariant-loop-held : goal.invariant-loop-held
invariant-loop-held l = Going l.fn.out l.front l.word l.all l.out l.held l.place

abbrev pub decreases-loop-held : goal.decreases-loop-held
decreases-loop-held l = l.held
