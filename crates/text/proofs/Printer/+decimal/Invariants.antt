-- `decimal` calls itself for the digits before the last one. The measure is how many there may be.
use Rattle.text.proofs.Printer.+decimal.Given as goal

abbrev pub decreases-decimal : goal.decreases-decimal
decreases-decimal l = l.k
