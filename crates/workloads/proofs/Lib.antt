mod FilledLemmas
mod ShortTexts
mod WorkloadExamples
